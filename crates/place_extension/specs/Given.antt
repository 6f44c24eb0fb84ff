-- What the functions beneath the calls lean on: the facts that the checks of the call have shown.
use Rattle.std.specs.Prelude.{ℕ, ◌≤◌, ◌≡◌, true}
use Rattle.rules.specs.Bounds.{max_radius}
use Rattle.rules.specs.Tests.{board_sides, on_wall, offset_fits}
use Rattle.rules.specs.declared.World.{World}
use Rattle.rules.specs.declared.Offset.{Offset}
use Rattle.rules.specs.declared.Pads.{Pads}

pub record Reached (rows cols : ℕ) (offset : Offset) (place : World) (k : ℕ) : Type 0 where
  pub sides : board_sides rows cols ≡ true
  pub near : k ≤ max_radius
  pub walled : on_wall place ≡ true
  pub fitting : offset_fits offset ≡ true

-- more than any pad of an accepted call (2,000,063); a pad up to this, added to an offset, fits 32 bits
abbrev pub max_pad : ℕ
max_pad = 3000000

pub record PadsIn (p : Pads) : Type 0 where
  pub left_in : p.left ≤ max_pad
  pub right-in : p.right ≤ max_pad
  pub top_in : p.top ≤ max_pad
  pub bottom-in : p.bottom ≤ max_pad
