-- The index of the nodes: chains of places, one to a bucket.
use Rattle.std.specs.Prelude.{◌≡◌, ℕ, ◌+◌, ◌-◌, ◌*◌, ◌%◌, ◌<◌, ◌≤◌, List, length, ◌≢◌, slice_index}
use Rattle.bdd.specs.declared.store.nodes.Node.{Node}
use Rattle.bdd.specs.Diagram.{node_at}

unfoldable pub bucket_of : ℕ → Node → ℕ
bucket_of m n = (n.var * 12582917 + n.high * 4256249 + n.low * 741457) % m

-- m buckets: each is a chain of places that fall, and has every node of its number
pub record LinkedBy (m : ℕ) (ns : List Node) (next heads : List ℕ) : Type 0 where
  pub wide : length heads ≡ m
  pub some : 0 < m
  pub long : length next ≡ length ns
  pub head_within : (b : ℕ) → b < m → slice_index heads b ≤ length ns
  pub head_same : (b : ℕ) → b < m → 0 < slice_index heads b → bucket_of m (node_at ns (slice_index heads b - 1)) ≡ b
  pub head_past : (i : ℕ) → i < length ns → i < slice_index heads (bucket_of m (node_at ns i))
  pub next_back : (j : ℕ) → j < length ns → slice_index next j ≤ j
  pub next_same : (j : ℕ) → j < length ns → 0 < slice_index next j → bucket_of m (node_at ns (slice_index next j - 1)) ≡ bucket_of m (node_at ns j)
  pub next_past : (i j : ℕ) → i < j → j < length ns → bucket_of m (node_at ns i) ≡ bucket_of m (node_at ns j) → i < slice_index next j

abbrev pub Linked : List Node → List ℕ → List ℕ → Type 0
Linked ns next heads = LinkedBy (length heads) ns next heads

abbrev pub Lacks : List Node → Node → Type 0
Lacks ns n = (k : ℕ) → k < length ns → node_at ns k ≢ n
