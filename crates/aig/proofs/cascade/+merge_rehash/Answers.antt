-- What is left to show of `merge` and `rehash`, beyond what the search finds.
use Rattle.std.proofs.Common.{◌+◌, List, sym, subst, arith, rules}
use Rattle.aig.specs.declared.vertex.Vertex.{Vertex}
use Rattle.aig.proofs.Sweeps.{Sweeping}
use Rattle.aig.proofs.Merging.{sweep_none, sweep_less, sweep_dirty, sweep_all, sweep_more, sweep_skip}
use Rattle.aig.proofs.Rehashing.{known_ready, known_done, after_ready, written_less, after_done, alone_done}
use Rattle.aig.proofs.cascade.+merge_rehash.Goals as goal
use Rattle.aig.proofs.cascade.+merge_rehash.Goals.{merge-then-stands+then-reads, merge-else-stands, merge-else-stands-via-then-stands+else-reads, merge-else-stands-via-else-stands}

pub merge-loop-w-init : goal.merge-loop-w-init
merge-loop-w-init t c = sweep_none c.requires c.relink.ensures

pub merge-rehash-requires : goal.merge-rehash-requires
merge-rehash-requires t c =
    let less = sweep_less c.requires c.relink.ensures c.loop-w.invariant in
    (omega (arith, c.decreases), sweep_dirty c.requires c.relink.ensures c.loop-w.invariant (omega arith) (omega arith) (c.stands.ensures.0 c.if-stands.true) (c.reads.ensures.0 c.if-reads.true))

pub merge-loop-w-preserved : goal.merge-loop-w-preserved
merge-loop-w-preserved t c =
    let P : List Vertex → Type 0 = λ s. Sweeping c.args.inputs c.relink.new.table c.args.gone (c.loop-w.w + 1) s in
    elim c.if-stands.branch [
      | merge-then-stands+then-reads w ↦ subst P (sym w.table-is) (sweep_more c.loop-w.invariant (omega arith) w.rehash.ensures)
      | merge-else-stands w ↦ subst P (sym w.table-is) (elim w.else-stands.branch [
        | merge-else-stands-via-then-stands+else-reads v ↦ sweep_skip c.loop-w.invariant (λ p e. search rules)
        | merge-else-stands-via-else-stands v ↦ sweep_skip c.loop-w.invariant (λ p e. search rules)
      ])
    ]

pub merge-returns : goal.merge-returns
merge-returns t c = sweep_all c.requires c.relink.ensures c.loop-w.invariant c.loop-w-test.false

pub rehash-merge-requires : goal.rehash-merge-requires
rehash-merge-requires t c =
    (omega (arith, c.decreases), known_ready c.requires c.pair-pair.ensures _ c.in-Some.ensures (omega arith))

pub rehash-returns-in-Some : goal.rehash-returns-in-Some
rehash-returns-in-Some t c =
    known_done c.requires c.pair-pair.ensures _ c.in-Some.ensures (omega arith) c.merge.ensures

pub rehash-merge-requires-in-Some-2 : goal.rehash-merge-requires-in-Some-2
rehash-merge-requires-in-Some-2 t c =
    let less = written_less c.requires c.pair-pair.ensures in
    (rw c.with.ensures (omega (arith, c.decreases, less)), rw (c.with.ensures, c.of.ensures, c.vertex-in-Some-2.ensures) (after_ready c.requires c.pair-pair.ensures _ c.in-Some.ensures (omega arith)))

pub rehash-returns-in-Some-2 : goal.rehash-returns-in-Some-2
rehash-returns-in-Some-2 t c =
    after_done c.requires c.pair-pair.ensures _ c.in-Some.ensures (omega arith) (rw (c.with.ensures, c.of.ensures, c.vertex-in-Some-2.ensures) at c.merge-in-Some-2.ensures)

pub rehash-returns-in-None : goal.rehash-returns-in-None
rehash-returns-in-None t c =
    rw c.with-in-None.ensures (alone_done c.requires c.pair-pair.ensures c.in-None.ensures.proper (λ k g i s l r. c.in-None.ensures.absent k (record { after = g; inside = i; stands = s }) l r))
