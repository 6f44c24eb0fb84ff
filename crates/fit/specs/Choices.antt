-- Document 02, request 9, in the answers of the listing call.
use Rattle.std.specs.Prelude.{ℕ, Bool, false, List, Ok, Err}
use Rattle.rules.specs.Sets.{has}
use Rattle.rules.specs.Fit.{listing}
use Rattle.rules.specs.Board.{Panel}
use Rattle.rules.specs.declared.World.{World}
use Rattle.rules.specs.Answers.{Answer}
use Rattle.rules.specs.declared.TileBitset.{TileBitset}

-- colour t is among those that a listing answers; a refused one answers none
abbrev pub answers : Answer TileBitset → ℕ → Bool
answers (Ok s) t = has s.bits t
answers (Err r) t = false

-- what a listing that names so many colours answers at a place of a panel with these pieces
abbrev pub asked : Panel → ℕ → World → List ℕ → Answer TileBitset
asked j n place pieces = listing j.kind pieces j.rows j.cols j.tiles n place j.offset
