-- What messages carry and what tasks start with: for each channel an amount, above zero credits, below zero debts.
use Rattle.std.specs.Prelude.{ℕ, Bool, cond, ◌&&◌, List, [], ◌∷◌, ℤ, pos, negsuc, ◌==◌, slice_index_or}
use Rattle.records.specs.declared.record.Record.{Record}
use Rattle.text.specs.Text.{byte}

-- a plain number that is not below zero, as a word and a count of credits are
abbrev pub natural : ℤ → ℕ
natural (pos n) = n
natural (negsuc n) = 0

-- a W line of this pair
abbrev pub carries_of : Record → ℕ → ℕ → Bool
carries_of r c d = r.letter == (byte "W") && (r.first == c && r.second == d)

-- How many credits of channel d each message on channel c carries: what the W line of the pair says, and else none.
abbrev pub carried_by : List Record → ℕ → ℕ → ℕ
carried_by [] c d = 0
carried_by (r ∷ rs) c d = cond (carries_of r c d) (natural r.number) (carried_by rs c d)

-- What a task starts with on a channel: what the Q line of the channel says, and else nothing.
abbrev pub counted_on : List Record → ℕ → ℤ
counted_on [] c = pos 0
counted_on (r ∷ rs) c = cond (r.first == c) r.number (counted_on rs c)

-- the amount of a channel, in a row of amounts; and in row c of a table of such rows
abbrev pub amount_in : List ℤ → ℕ → ℤ
amount_in row x = slice_index_or row x (pos 0)

abbrev pub amount_at : List (List ℤ) → ℕ → ℕ → ℤ
amount_at rows c d = amount_in (slice_index_or rows c []) d
