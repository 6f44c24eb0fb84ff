-- Two results that meet the contract of a call coincide. Assumes nothing.
use Prim.Native.Nat.{ℕ}
use mathlib.Core.Path.{◌≡◌}
use mathlib.Core.Bool.{Bool}
use Rattle.base.proofs.Chain.{coincide}
use Rattle.rules.specs.Sets.{empty_set, full_set, inserted, contained, intersected, emptiness, members_counted, members_listed}
use Rattle.rules.specs.declared.TileBitset.{TileBitset}
use Rattle.rules.specs.declared.ColourList.{ColourList}
use Rattle.rules.specs.Answers.{Answer}

pub new-coincides : {x y : Answer TileBitset} (size : ℕ) → x ≡ empty_set size → y ≡ empty_set size → x ≡ y
new-coincides size = coincide

pub all-coincides : {x y : Answer TileBitset} (size : ℕ) → x ≡ full_set size → y ≡ full_set size → x ≡ y
all-coincides size = coincide

pub insert-coincides : {x y : Answer TileBitset} (s : TileBitset) (t : ℕ) → x ≡ inserted s t → y ≡ inserted s t → x ≡ y
insert-coincides s t = coincide

pub contains-coincides : {x y : Answer Bool} (s : TileBitset) (t : ℕ) → x ≡ contained s t → y ≡ contained s t → x ≡ y
contains-coincides s t = coincide

pub intersection-coincides : {x y : Answer TileBitset} (s u : TileBitset) → x ≡ intersected s u → y ≡ intersected s u → x ≡ y
intersection-coincides s u = coincide

pub is-empty-coincides : {x y : Answer Bool} (s : TileBitset) → x ≡ emptiness s → y ≡ emptiness s → x ≡ y
is-empty-coincides s = coincide

pub count-coincides : {x y : Answer ℕ} (s : TileBitset) → x ≡ members_counted s → y ≡ members_counted s → x ≡ y
count-coincides s = coincide

pub to-vec-coincides : {x y : Answer ColourList} (s : TileBitset) → x ≡ members_listed s → y ≡ members_listed s → x ≡ y
to-vec-coincides s = coincide
