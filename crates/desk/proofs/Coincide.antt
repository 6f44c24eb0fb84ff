-- Two results that meet the contract of a function of the desk coincide: the number, and what the lent memory holds.
-- Assumes nothing.
use Prim.Native.Nat.{ℕ}
use mathlib.Core.List.{List}
use lib.IntN.{ℤ}
use lib.Ieee.{Float}
use Rattle.std.specs.Prelude.{Option}
use Rattle.rules.specs.Board.{Board}
use Rattle.rules.specs.declared.Pads.{Pads}
use Rattle.boundary.proofs.Back.{Decides, gives-decides, numbered-decides}
use Rattle.desk.specs.Desk.{DeskLists, DeskLays, DeskLifts, DeskRuns, DeskWidens, DeskScores, DeskScoresNear}
use Rattle.rules.specs.declared.BoundingBox.{BoundingBox}

module _ (rows cols : ℕ) (tiles : List ℕ) (count : ℕ) (row col down across : ℤ) where
  pub fitting-coincide : (pieces found : List ℕ) → Decides (DeskLists pieces rows cols tiles count row col down across found)
  fitting-coincide pieces found = gives-decides _ _

  pub lay-coincide : (colour : ℕ) (old : Board) → Decides (DeskLays rows cols tiles count row col down across colour old)
  lay-coincide colour old = numbered-decides _ (gives-decides _ _)

  pub lift-coincide : (old : Board) → Decides (DeskLifts rows cols tiles count row col down across old)
  lift-coincide old = numbered-decides _ (gives-decides _ _)

  pub run-coincide : (bounds : Option BoundingBox) (budget : ℕ) (old : Board) (ran : List ℕ) → Decides (DeskRuns rows cols tiles count row col down across bounds budget old ran)
  run-coincide bounds budget old ran = gives-decides _ _

pub widen-coincide : (rows cols : ℕ) (p : Pads) (tiles : List ℕ) (count : ℕ) (down across : ℤ) (old lent : Board) (offset : List ℤ)
    → Decides (DeskWidens rows cols p tiles count down across old lent offset)
widen-coincide rows cols p tiles count down across old lent offset = gives-decides _ _

module _ (rows cols : ℕ) (counts : List ℕ) (tiles : ℕ) (scores : List Float) where
  pub score-coincide : Decides (DeskScores rows cols counts tiles scores)
  score-coincide = numbered-decides _ (gives-decides _ _)

  pub score-near-coincide : (rowstart rowend colstart colend : ℕ) → Decides (DeskScoresNear rows cols counts tiles rowstart rowend colstart colend scores)
  score-near-coincide rowstart rowend colstart colend = numbered-decides _ (gives-decides _ _)
