-- Two results that meet the contract of a function for tests coincide: the number, and what the lent memory holds. One theorem a function.
-- Assumes nothing.
use Prim.Native.Nat.{ℕ}
use mathlib.Core.List.{List}
use lib.IntN.{ℤ}
use lib.Ieee.{Float}
use Rattle.rules.specs.Promises.{Normalises, Multiplies, Divides, ScoresLay, ScoresLift}
use Rattle.probability_influence.specs.Step.{block_of}
use Rattle.boundary_slots.specs.Slots.{world, offset_by}
use Rattle.boundary.specs.Boundary.{Numbered}
use Rattle.harness_floats.specs.Spans.{span_from}
use Rattle.boundary.proofs.Back.{Decides, gives-decides, numbered-decides}

pub port-normalise-coincide : (probabilities : List Float) (rows cols count : ℕ) (row col down across : ℤ) (out : List Float)
    → Decides (Numbered (Normalises probabilities rows cols count (world row col) (offset_by down across) out))
port-normalise-coincide probabilities rows cols count row col down across out = numbered-decides _ (gives-decides _ _)

pub port-product-coincide : (probabilities : List Float) (rows cols count : ℕ) (block : List Float) (blockrows blockcols : ℕ) (row col down across : ℤ) (radius : ℕ)
    → Decides (Numbered (Multiplies rows cols count (block_of blockrows blockcols block) (world row col) (offset_by down across) radius probabilities))
port-product-coincide probabilities rows cols count block blockrows blockcols row col down across radius = numbered-decides _ (gives-decides _ _)

pub port-quotient-coincide : (probabilities : List Float) (rows cols count : ℕ) (block : List Float) (blockrows blockcols : ℕ) (row col down across : ℤ) (radius : ℕ)
    → Decides (Numbered (Divides rows cols count (block_of blockrows blockcols block) (world row col) (offset_by down across) radius probabilities))
port-quotient-coincide probabilities rows cols count block blockrows blockcols row col down across radius = numbered-decides _ (gives-decides _ _)

pub port-lay-score-coincide : (scores : List Float) (counts : List ℕ) (rows cols tiles : ℕ) (row col down across : ℤ)
    → Decides (Numbered (ScoresLay rows cols counts tiles (world row col) (offset_by down across) scores))
port-lay-score-coincide scores counts rows cols tiles row col down across = numbered-decides _ (gives-decides _ _)

pub port-lift-score-coincide : (scores : List Float) (counts : List ℕ) (rows cols tiles rowstart rowend colstart colend : ℕ)
    → Decides (Numbered (ScoresLift rows cols counts tiles (span_from rowstart rowend) (span_from colstart colend) scores))
port-lift-score-coincide scores counts rows cols tiles rowstart rowend colstart colend = numbered-decides _ (gives-decides _ _)
