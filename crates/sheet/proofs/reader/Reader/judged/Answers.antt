-- What is left to show of `reader::Reader::judged`, beyond what the search finds.
use Rattle.std.proofs.Common.{refl, inl, inr}
use Rattle.std.proofs.lemmas.Result.{err_from_is_err_and}
use Rattle.sheet.proofs.reader.Reader.judged.Goals as goal

pub returns-in_err-value : goal.returns-in_err-value
returns-in_err-value g c =
    let p = err_from_is_err_and c.from_residual.result c.from_residual.ensures.1 in
    rw (p.1, p.2) (inl (record { shown = _; shows = refl; left = _; met = c.in_err-value.ensures; leaves = refl }))

pub returns-else-fits : goal.returns-else-fits
returns-else-fits g c = inr (c.in_ok-value.value, record { shown = _; shows = refl; left = _; met = c.in_ok-value.ensures; leaves = refl }, (_, c.if-fits.ensures, refl), refl)
