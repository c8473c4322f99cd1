-- How a text writes the levels of a wait order.
use Rattle.std.specs.Prelude.{ℕ, List}
use Rattle.text.specs.declared.range.Range.{Range}

pub record Written : Type 0 where
  -- the word of the header line
  pub word : List ℕ
  -- how many fields a level takes, 1 or 2, and the numbers that each may have
  pub fields : ℕ
  pub first : Range
  pub second : Range
