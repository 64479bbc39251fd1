-- The bucket is the definition, computed.
use Rattle.std.proofs.Common.{refl, arith}
use Rattle.bdd.specs.Index.{bucket_of}
use Rattle.bdd.proofs.store.nodes.Node.bucket.Goals as goal

pub returns : goal.returns
unfolding bucket_of
returns c = (refl, omega arith)
