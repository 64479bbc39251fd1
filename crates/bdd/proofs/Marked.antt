-- Marking the nodes that an edge leads to, from the last to the first.
use Rattle.std.proofs.Common.{◌≡◌, ℕ, zero, suc, ◌+◌, ◌-◌, ◌*◌, ◌/◌, ◌<◌, ◌≤◌, Bool, true, false, cond, ltb, ◌⊎◌, List, length, set, sym, refl, ap, ◌∙◌, subst, inl, inr, ⊎_elim, arith, length-set}
use mathlib.Core.Path.{fun_ext}
use Rattle.std.proofs.lemmas.List.{get_or-set_same, get_or-set_other}
use Rattle.std.proofs.lemmas.Bool.{cases_lt, cases_eq, lt-ltb, le-ltb, both_ways}
use Rattle.bdd.specs.declared.store.nodes.Node.{Node}
use Rattle.bdd.specs.Diagram.{child, node_at, turned, inverted, eval, var_at, top, Good}
use Rattle.bdd.specs.Parts.{fixed, PartOf}
use Rattle.bdd.specs.Marking.{Marked, Marks, at, with_mark}
use Rattle.bdd.proofs.Values.{eval_child, turned_even, child_fits}
use Rattle.bdd.proofs.Growth.{straight_of, eval_fixed}
use Rattle.bdd.proofs.Canon.{upd, upd_at, upd_other, eval_upd}

mark_same : (ms : List Bool) (j k : ℕ) → (j ≡ suc k → ⊥) → at (with_mark ms j) k ≡ at ms k
mark_same ms zero k ne = refl
mark_same ms (suc j) k ne = get_or-set_other ms j k true false (λ e. ne (omega arith))

mark_own : (ms : List Bool) (j : ℕ) → j ≤ length ms → Marked (at (with_mark ms j)) j
mark_own ms zero h = tt
mark_own ms (suc j) h = get_or-set_same ms j true false h

mark_kept : (ms : List Bool) (j k : ℕ) → j ≤ length ms → at ms k ≡ true → at (with_mark ms j) k ≡ true
mark_kept ms zero k h t = t
mark_kept ms (suc j) k h t = ⊎_elim (λ e. ap (at (set ms j true)) e ∙ get_or-set_same ms j true false h) (λ ne. get_or-set_other ms j k true false ne ∙ t) (cases_eq k j)

mark_which : (ms : List Bool) (j k : ℕ) → at (with_mark ms j) k ≡ true → (at ms k ≡ true) ⊎ (j ≡ suc k)
mark_which ms j k t = ⊎_elim (λ e. inr e) (λ ne. inl (sym (mark_same ms j k ne) ∙ t)) (cases_eq j (suc k))

marked_kept : (ms : List Bool) (j i : ℕ) → j ≤ length ms → Marked (at ms) i → Marked (at (with_mark ms j)) i
marked_kept ms j zero h t = tt
marked_kept ms j (suc k) h t = mark_kept ms j k h t

with_length : (ms : List Bool) (j : ℕ) → length (with_mark ms j) ≡ length ms
with_length ms zero = refl
with_length ms (suc j) = simp length-set

turned_turned : (a b c : Bool) → turned a (turned b c) ≡ turned (turned a b) c
turned_turned true true true = refl
turned_turned true true false = refl
turned_turned true false c = refl
turned_turned false b c = refl

pub part_root : (ns : List Node) (e k : ℕ) → Good ns → e / 2 ≤ length ns → e / 2 ≡ k + 1 → PartOf ns (λ ρ. eval ns ρ e) k
part_root ns e k good inside is =
    let top_is : top ns e ≡ (node_at ns k).var = let h : e / 2 ≡ suc k = omega arith in ap (var_at ns) h in
    record {
      at = λ _. false;
      turn = inverted e;
      value_is = λ ρ. straight_of ns ρ e k is ∙ ap (turned (inverted e)) (sym (eval_fixed ns (λ _. false) ρ (node_at ns k).var e good inside (omega arith)));
    }

fixed_twice : (σ ρ : ℕ → Bool) (w x : ℕ) (b : Bool) → w < x → (u : ℕ) → fixed σ w (upd (fixed σ x ρ) w b) u ≡ fixed (upd σ w b) x ρ u
fixed_twice σ ρ w x b lt u = ⊎_elim
    (λ l.
    ap (λ t. cond t (σ u) (upd (fixed σ x ρ) w b u)) (lt-ltb u w l)
    ∙ sym (ap (λ t. cond t (upd σ w b u) (ρ u)) (lt-ltb u x (omega arith)) ∙ upd_other σ w b u (omega arith)))
    (λ g. ap (λ t. cond t (σ u) (upd (fixed σ x ρ) w b u)) (le-ltb u w g) ∙ ⊎_elim
    (λ e. ap (upd (fixed σ x ρ) w b) e ∙ upd_at (fixed σ x ρ) w b ∙ sym (ap (λ t. cond t (upd σ w b u) (ρ u)) (lt-ltb u x (omega arith)) ∙ ap (upd σ w b) e ∙ upd_at σ w b))
    (λ ne. upd_other (fixed σ x ρ) w b u ne ∙ sym (ap (λ y. cond (ltb u x) y (ρ u)) (upd_other σ w b u ne)))
    (cases_eq u w))
    (cases_lt u w)

pub part_child : (ns : List Node) (φ : (ℕ → Bool) → Bool) (k j : ℕ) (b : Bool) → Good ns → k < length ns → PartOf ns φ k → child (node_at ns k) b / 2 ≡ suc j → PartOf ns φ j
part_child ns φ k j b good h p is =
    let n : Node = node_at ns k in
    let w : ℕ = n.var in
    let c : ℕ = child n b in
    let cf = child_fits ns k n b (good.fits k h) in
    let x : ℕ = (node_at ns j).var in
    let cb = cf.0 in
    let top_is : top ns c ≡ x = ap (var_at ns) is in
    let lt : w < x = omega (arith, cf.1) in
    let own : 2 * (k + 1) / 2 ≡ suc k = omega arith in
    let turn : Bool = turned (inverted c) p.turn in
    record {
      at = upd p.at w b;
      turn = turn;
      value_is = λ ρ.
          let ρ₁ : ℕ → Bool = fixed p.at x ρ in
          let ρ₂ : ℕ → Bool = upd ρ₁ w b in
          straight_of ns ρ c j (omega arith)
          ∙ ap (turned (inverted c))
          (sym (eval_fixed ns p.at ρ x c good (omega arith) (omega arith))
          ∙ sym (eval_upd ns ρ₁ w b c good (omega arith) cf.1)
          ∙ sym (eval_child ns ρ₂ (2 * (k + 1)) k b good own h (upd_at ρ₁ w b) ∙ turned_even (2 * (k + 1)) (eval ns ρ₂ c) (omega arith))
          ∙ p.value_is ρ₂ ∙ ap (λ τ. turned p.turn (φ τ)) (fun_ext (fixed_twice p.at ρ w x b lt)))
          ∙ turned_turned (inverted c) p.turn (φ (fixed (upd p.at w b) x ρ));
    }

pub marks_start : (ns : List Node) (e : ℕ) (ms : List Bool) → Good ns → e / 2 ≤ length ns → e / 2 ≤ length ms → ((k : ℕ) → k < e / 2 → at ms k ≡ false) → Marks ns e (e / 2) (e / 2) (at (with_mark ms (e / 2)))
marks_start ns e ms good inside room none = record {
  part = λ k h t. ⊎_elim
      (λ old. absurd (both_ways (at ms k) (none k h) old))
      (λ is. part_root ns e k good inside (omega arith))
      (mark_which ms (e / 2) k t);
  closed = λ k le lt. absurd (omega arith);
  root = mark_own ms (e / 2) room;
}

pub marks_step : (ns : List Node) (e n i : ℕ) (ms : List Bool) → Good ns → n ≤ length ns → n ≤ length ms → i < n → at ms i ≡ true → Marks ns e n (suc i) (at ms)
    → Marks ns e n i (at (with_mark (with_mark ms ((node_at ns i).high / 2)) ((node_at ns i).low / 2)))
marks_step ns e n i ms good in-ns in-ms lt t s =
    let c : Node = node_at ns i in
    let fits = good.fits i (omega arith) in
    let hb = fits.high_back in
    let lb = fits.low_back in
    let m₁ : List Bool = with_mark ms (c.high / 2) in
    let m₂ : List Bool = with_mark m₁ (c.low / 2) in
    let hin : c.high / 2 ≤ length ms = omega arith in
    let lin : c.low / 2 ≤ length m₁ = omega (arith, with_length ms (c.high / 2)) in
    let still : (j : ℕ) → Marked (at ms) j → Marked (at m₂) j = λ j q. marked_kept m₁ (c.low / 2) j lin (marked_kept ms (c.high / 2) j hin q) in
    let above : (k : ℕ) → i ≤ k → at m₂ k ≡ at ms k = λ k le. mark_same m₁ (c.low / 2) k (λ q. omega arith) ∙ mark_same ms (c.high / 2) k (λ q. omega arith) in
    let own = s.part i lt t in
    record {
      part = λ k h q. ⊎_elim
          (λ q₁. ⊎_elim (λ q₀. s.part k h q₀) (λ is. part_child ns (λ ρ. eval ns ρ e) i k true good (omega arith) own is) (mark_which ms (c.high / 2) k q₁))
          (λ is. part_child ns (λ ρ. eval ns ρ e) i k false good (omega arith) own is)
          (mark_which m₁ (c.low / 2) k q);
      closed = λ k le h q. ⊎_elim
          (λ eq. subst (λ x. Marked (at m₂) ((node_at ns x).high / 2) × Marked (at m₂) ((node_at ns x).low / 2)) eq
          (marked_kept m₁ (c.low / 2) (c.high / 2) lin (mark_own ms (c.high / 2) hin), mark_own m₁ (c.low / 2) lin))
          (λ ne.
          let r = s.closed k (omega arith) h (sym (above k le) ∙ q) in
          (still ((node_at ns k).high / 2) r.0, still ((node_at ns k).low / 2) r.1))
          (cases_eq i k);
      root = still (e / 2) s.root;
    }

-- a turn of the loop that marks, at a node that is marked
pub turn_marked : (ns : List Node) (e n i : ℕ) (ms ms' : List Bool) → Good ns → n ≤ length ns → n ≤ length ms → 0 < i → i ≤ n → Marks ns e n i (at ms) → at ms (i - 1) ≡ true
    → ms' ≡ with_mark (with_mark ms ((node_at ns (i - 1)).high / 2)) ((node_at ns (i - 1)).low / 2) → Marks ns e n (i - 1) (at ms')
turn_marked ns e n i ms ms' good in-ns in-ms pos le marks mark is =
    let ij : i ≡ suc (i - 1) = omega arith in
    subst (λ x. Marks ns e n (i - 1) (at x)) (sym is)
    (marks_step ns e n (i - 1) ms good in-ns in-ms (omega arith) mark (subst (λ k. Marks ns e n k (at ms)) ij marks))

pub turn_start : (ns : List Node) (e : ℕ) (ms ms' : List Bool) → Good ns → e / 2 ≤ length ns → e / 2 ≤ length ms → ((k : ℕ) → k < e / 2 → at ms k ≡ false) → ms' ≡ with_mark ms (e / 2) → Marks ns e (e / 2) (e / 2) (at ms')
turn_start ns e ms ms' good inside room none is = subst (λ x. Marks ns e (e / 2) (e / 2) (at x)) (sym is) (marks_start ns e ms good inside room none)
