-- What groups took from each run, and what they left of it. Document 01, section "Attention": "A match takes 2 from each if both have at least
-- 2, else 1; runs between lose open". Nothing is taken twice and nothing is lost: what a run had is what it has left, what it gave as a
-- closer and what it gave as an opener. All else of a run stays, but that it may lose open.
-- Assumes nothing.
use Rattle.std.specs.Prelude.{ℕ, ◌+◌, ◌≡◌, true, List, length}
use Rattle.runs.specs.Plain.{Standing, Group, at}
use Rattle.runs.specs.Pieces.{closed, opened}

-- the groups gs make of the runs rs₀ the runs rs
pub record Accounts (rs₀ : List Standing) (gs : List Group) (rs : List Standing) : Type 0 where
  pub as_many : length rs ≡ length rs₀
  pub marker : (q : ℕ) → (at rs q).marker ≡ (at rs₀ q).marker
  pub container : (q : ℕ) → (at rs q).container ≡ (at rs₀ q).container
  pub whole : (q : ℕ) → (at rs q).whole ≡ (at rs₀ q).whole
  pub closes : (q : ℕ) → (at rs q).closes ≡ (at rs₀ q).closes
  pub opens : (q : ℕ) → (at rs q).opens ≡ true → (at rs₀ q).opens ≡ true
  pub spent : (q : ℕ) → (at rs q).left + closed gs q + opened gs q ≡ (at rs₀ q).left
