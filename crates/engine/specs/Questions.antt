-- What an engine is asked, told by functions alone: a question has no word of how a graph holds its vertices.
use Rattle.std.specs.Prelude.{ℕ, Bool, false, cond, List, length, nat_lt}
use Rattle.aig.specs.Values.{vertex_value, value}
use Rattle.aig.specs.declared.vertex.Vertex.{Vertex}

-- the inputs, how many vertices are in use, the function of each of them, the functions of the two nets, the size limit
-- and the length of the node table
pub record Question : Type 0 where
  pub inputs : ℕ
  pub used : ℕ
  pub functions : ℕ → ℕ → Bool
  pub first : ℕ → Bool
  pub second : ℕ → Bool
  pub limit : ℕ
  pub nodes : ℕ

-- the function of each vertex in use, by vertex and code; false beyond them, so that equal questions are equal
abbrev pub functions_of : ℕ → List Vertex → ℕ → ℕ → Bool
functions_of n t v code = cond (nat_lt v (length t)) (vertex_value n t code v) false

-- the question whether the nets `a` and `b` of a table over `n` inputs agree
abbrev pub question : ℕ → List Vertex → ℕ → ℕ → ℕ → ℕ → Question
question n t a b limit nodes = record {
  inputs = n;
  used = length t;
  functions = functions_of n t;
  first = value n t a;
  second = value n t b;
  limit = limit;
  nodes = nodes;
}

-- the same question at another limit
abbrev pub at_limit : ℕ → Question → Question
at_limit limit q = record {
  inputs = q.inputs;
  used = q.used;
  functions = q.functions;
  first = q.first;
  second = q.second;
  limit = limit;
  nodes = q.nodes;
}
