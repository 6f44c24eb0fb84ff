-- `tiles::membership::convert_tile_to_membership_booleans` meets its contract: a refusal, or the set. Assumes nothing.
use Rattle.base.proofs.Chain.{chain}
use Rattle.rules.specs.Tiles.{membership}
use Rattle.rules.proofs.Answered.{answers}
use Rattle.bitset_colours.proofs.Calls.{of-bits}
use Rattle.tiles.proofs.membership.convert_tile_to_membership_booleans.Goals as goal

pub returns-then-not-colour_count : goal.returns-then-not-colour_count
unfolding membership
returns-then-not-colour_count c = search (chain, answers) depth 20 fits 5000

pub returns-then-not-no_byte_above : goal.returns-then-not-no_byte_above
unfolding membership
returns-then-not-no_byte_above c = search (chain, answers) depth 20 fits 5000

pub returns : goal.returns
unfolding membership
returns c = search (chain, answers, of-bits) depth 20 fits 5000
