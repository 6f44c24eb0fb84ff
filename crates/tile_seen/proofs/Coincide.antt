-- Two results that meet the contract of a function coincide. Assumes nothing.
use Prim.Native.Nat.{ℕ, ◌<◌}
use mathlib.Core.Path.{◌≡◌}
use mathlib.Core.Bool.{Bool}
use mathlib.Core.List.{List}
use lib.ListN.{get_or}
use Rattle.base.proofs.Chain.{coincide}
use Rattle.rules.specs.Tiles.{has_tile}
use Rattle.tile_seen.specs.Chains.{buckets, bucket_of, Notes}

pub bucket-of-coincides : {x y : ℕ} (tile : List ℕ) → (x ≡ bucket_of (λ k. get_or tile k 0)) × (x < buckets) → (y ≡ bucket_of (λ k. get_or tile k 0)) × (y < buckets)
    → x ≡ y
bucket-of-coincides tile p q = coincide p.0 q.0

pub has-tile-coincides : {x y : Bool} (tiles tile : List ℕ) → x ≡ has_tile tiles tile → y ≡ has_tile tiles tile → x ≡ y
has-tile-coincides tiles tile = coincide

pub note-tile-coincides : {h k x y : List ℕ} (heads nexts : List ℕ) (n bucket : ℕ) → Notes n bucket heads nexts h x → Notes n bucket heads nexts k y
    → (h ≡ k) × (x ≡ y)
note-tile-coincides heads nexts n bucket p q = (coincide p.heading q.heading, coincide p.linking q.linking)
