-- The sample refusals of the documents, shown of the definitions themselves.
use Rattle.std.specs.Prelude.{◌≡◌, ℕ, Bool, true, false, ◌&&◌, List, [], ◌∷◌, Ok, Err, codes, Result, ◌==◌}
use Prim.Native.String.{String}
use Rattle.clearer.specs.Orders.{rank_written, zone_written}
use Rattle.records.specs.declared.fault.ReadFault.{ReadFault}
use Rattle.records.specs.declared.record.Record.{Record}
use Rattle.records.specs.Faults.{line_of, number_of}
use Rattle.records.specs.Order.{Written}
use Rattle.reader.specs.Reading.{reading}
use Rattle.text.specs.Text.{every}

-- a text that is refused, with the fault's number and line
pub record Refusal : Type 0 where
  pub order : Written
  pub text : String
  pub number : ℕ
  pub line : ℕ

abbrev pub refuses : Refusal → Result (List Record) ReadFault → Bool
refuses s (Ok rs) = false
refuses s (Err f) = number_of f == s.number && line_of f == s.line

abbrev pub is_refused : Refusal → Bool
is_refused s = refuses s (reading s.order (codes s.text) 800)

abbrev pub fault : Written → String → ℕ → ℕ → Refusal
fault order text number line = record { order = order; text = text; number = number; line = line }

abbrev pub refusals : List Refusal
refusals =
    fault rank_written "P,RANK" 3 1
    ∷ fault rank_written "P,RANK\nT,main\n" 3 2
    ∷ fault rank_written "P,RANK\nT,ABCDEFGHIJKLMNOPQRSTUVWXYZ012345678901234567890\n" 3 2
    ∷ fault rank_written "\n" 4 1
    ∷ fault rank_written "C,A,1\n" 4 1
    ∷ fault rank_written "P,RANK\nX,A\n" 4 2
    ∷ fault rank_written "P,RANK\nT,A\nC,B,1\n" 4 3
    ∷ fault rank_written "P\n" 5 1
    ∷ fault rank_written "P,RANK,\n" 5 1
    ∷ fault rank_written "P,RANK\nC,A,1,2\n" 5 2
    ∷ fault zone_written "P,ZONE\nC,A,1\n" 5 2
    ∷ fault rank_written "P,\n" 6 1
    ∷ fault rank_written "P,ZONE\n" 6 1
    ∷ fault rank_written "P,RANK\nC,A,01\n" 6 2
    ∷ fault rank_written "P,RANK\nC,A,-0\n" 6 2
    ∷ fault rank_written "P,RANK\nC,A,10000\n" 6 2
    ∷ fault rank_written "P,RANK\nC,A,18446744073709551616\n" 6 2
    ∷ fault rank_written "P,RANK\nC,ABCDEFGHIJKLM,1\n" 6 2
    ∷ fault rank_written "P,RANK\nC,A,1\nT,M\nQ,A,0\n" 6 4
    ∷ fault rank_written "P,RANK\nC,A,1\nK,A,2\n" 7 3
    ∷ fault rank_written "P,RANK\nC,A,1\nT,A\n" 7 3
    ∷ fault rank_written "P,RANK\nC,A,1\nT,M\nR,B\n" 8 4
    ∷ fault rank_written "P,RANK\nC,A,1\nT,M\nA,A\n" 8 4
    ∷ fault rank_written "P,RANK\nT,M\nF,M\n" 8 3
    ∷ fault rank_written "P,RANK\nW,A,A,1\n" 8 2
    ∷ fault rank_written "P,RANK\nC,A,1\nW,A,A,1\nW,A,A,2\n" 9 4
    ∷ fault rank_written "P,RANK\nC,A,1\nT,M\nQ,A,1\nQ,A,2\n" 9 5
    ∷ fault rank_written "" 11 0
    ∷ fault rank_written "P,RANK\nC,A,1\n" 11 0
    ∷ fault rank_written "P,RANK\nT,A\nT,B\nT,C\nF,A\n" 12 3
    ∷ fault rank_written "P,RANK\nC,A,1\nT,M\nQ,A,1\n" 13 3
    ∷ []

-- every refusal is refused as it says
abbrev pub Samples : Type 0
Samples = every is_refused refusals ≡ true
