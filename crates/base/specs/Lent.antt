-- Memory that a caller lends to a function for change: what it holds when the function begins, and what when it ends.
use Rattle.std.specs.Borrow.{MutBor}
use denote.Triple.Both.{Both}

abbrev pub Lent : Type 0 → Type 0
Lent A = Both (MutBor A) (MutBor A)

abbrev pub before : {A : Type 0} → Lent A → A
before lent = lent.entry.now

abbrev pub after : {A : Type 0} → Lent A → A
after lent = lent.exit.now
