-- What a call that writes a text leaves of a lent buffer, and where the text ends there. What would pass the buffer's end is dropped.
use Rattle.std.specs.Prelude.{ℕ, ◌+◌, min, max, ◌≡◌, List, length}
use Rattle.std.proofs.lemmas.List.Edits.{sets}

-- the text's bytes, one after another, from entry at on
unfoldable pub page_with : List ℕ → ℕ → List ℕ → List ℕ
page_with text at page = sets page at text

unfoldable pub end_after : List ℕ → ℕ → List ℕ → ℕ
end_after text at page = max at (min (at + length text) (length page))

-- what a call promises that writes a text: where it ends, which is the answer, and what the buffer holds then
pub record Prints (text : List ℕ) (at : ℕ) (page : List ℕ) (r : ℕ) (after : List ℕ) : Type 0 where
  pub end : r ≡ end_after text at page
  pub bytes : after ≡ page_with text at page
