-- What may be asked of an engine, and what its answer means.
use Rattle.std.specs.Prelude.{◌≡◌, ℕ, ◌^◌, ◌<◌, ◌≤◌, Bool, not}
use Rattle.aig.specs.Values.{value}
use Rattle.aig.specs.Graphs.{inputs_of, vertices, used, InUse}
use Rattle.aig.specs.declared.graph.Graph.{Graph}
use Rattle.aig.specs.declared.net.Net.{Net}
use Rattle.engine.specs.Questions.{Question, question}
use Rattle.engine.specs.Piles.{Pile, Outside}
use Rattle.engine.specs.Merging.{OnlyMerged}
use Rattle.engine.specs.Spaces.{words_of, nodes_of, SameSizes}
use Rattle.engine.specs.declared.answer.Answer.{Answer}
use Rattle.engine.specs.declared.answer.Answer.TheVariants.{Equal, Unequal, Undecided}
use Rattle.engine.specs.declared.query.Query.{Query}
use Rattle.engine.specs.declared.workspace.Workspace.{Workspace}

-- the value of a net of a graph under a code
abbrev pub value_in : Graph → Net → ℕ → Bool
value_in g x code = value (inputs_of g) (vertices g) x.0 code

-- the question that a query of a graph puts
abbrev pub asked_of : Graph → Query → Workspace → Question
asked_of g query w = question (inputs_of g) (vertices g) query.a.0 query.b.0 query.limit (nodes_of w)

-- an engine may be asked of two nets in use, at a limit from 1 to 4,096, with a word for each vertex in use
pub record Askable (g : Graph) (query : Query) (w : Workspace) : Type 0 where
  pub first : InUse g query.a
  pub second : InUse g query.b
  pub least : 1 ≤ query.limit
  pub most : query.limit ≤ 4096
  pub words : used g ≤ words_of w

-- a pile was asked of the two nets of a query of `g`, and answered `r`, leaving the graph `h`: equal only if the two agree
-- under every code, unequal only with an input code under which they differ, undecided only outside the reach of every
-- engine in the pile; the graph is only merged, and the workspace keeps its sizes
pub record Asked (pile : Pile) (g : Graph) (query : Query) (w : Workspace) (r : Answer) (h : Graph) (w' : Workspace) : Type 0 where
  pub equal : r ≡ Equal → (code : ℕ) → value_in g query.a code ≡ value_in g query.b code
  pub width : (code : ℕ) → r ≡ Unequal code → code < 2 ^ inputs_of g
  pub apart : (code : ℕ) → r ≡ Unequal code → value_in g query.a code ≡ not (value_in g query.b code)
  pub outside : r ≡ Undecided → Outside pile (asked_of g query w)
  pub merged : OnlyMerged g h
  pub sizes : SameSizes w w'
