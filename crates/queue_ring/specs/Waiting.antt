-- What an adding promises of the entries that wait, next out first.
use Rattle.std.specs.Prelude.{List}
use Rattle.rules.specs.Answers.{Answer}
use Rattle.rules.specs.Forced.{room_checks}
use Rattle.rules.specs.Promises.{Writes}
use Rattle.rules.specs.declared.ForcedPosition.{ForcedPosition}

-- an adding that is to make l of the entries: they wait then, or, where there is not room for all of l, ROOM, and those wait that did
abbrev pub Adds : List ForcedPosition → List ForcedPosition → Answer Unit → List ForcedPosition → Type 0
Adds l = Writes (room_checks l) l
