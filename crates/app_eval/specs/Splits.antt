-- The pieces of a text behind the piece that is being read.
use Rattle.std.specs.Prelude.{List, [], ◌∷◌, ◌++◌}
use Rattle.flow_meaning.specs.Operators.{Text}

abbrev pub onto_piece : Text → List Text → List Text
onto_piece piece [] = piece ∷ []
onto_piece piece (first ∷ pieces) = (piece ++ first) ∷ pieces
