-- The marked plans: what each counts and its verdict, shown of the definitions themselves, by one table.
use Rattle.std.specs.Prelude.{◌≡◌, ℕ, Bool, true, false, cond, ◌&&◌, List, [], ◌∷◌, length, ℤ, Some, None, Ok, Err, codes, Option, Result, ◌==◌, int_lt}
use Prim.Native.String.{String}
use Rattle.records.specs.declared.fault.ReadFault.{ReadFault}
use Rattle.records.specs.declared.record.Record.{Record}
use Rattle.records.specs.Order.{Written}
use Rattle.tasks.specs.Records.{tasks_of}
use Rattle.tasks.specs.Threads.{moves_in, sends_in, threads_in}
use Rattle.text.specs.Text.{every}
use Rattle.reader.specs.Reading.{reading}
use Rattle.plan.specs.Program.{program_of}
use Rattle.clearer.specs.Breach.{Breach, first_breach}
use Rattle.clearer.specs.Orders.{rank_level, rank_written, zone_below, zone_level, zone_written}

-- a plan text, under ZONE or else under RANK, what it counts, and its first breach, or none where it is cleared
pub record Marked : Type 0 where
  pub zoned : Bool
  pub text : String
  pub threads : ℕ
  pub moves : ℕ
  pub sends : ℕ
  pub breach : Option Breach

abbrev pub same_breach : Option Breach → Option Breach → Bool
same_breach None None = true
same_breach None (Some y) = false
same_breach (Some x) None = false
same_breach (Some x) (Some y) = x.number == y.number && (x.line == y.line && x.object == y.object)

-- the records give so many threads, moves and sends
abbrev pub counts_of : List Record → ℕ → ℕ → ℕ → Bool
counts_of rs threads moves sends = length (threads_in rs (tasks_of rs)) == threads && (moves_in rs (tasks_of rs) == moves && sends_in rs (tasks_of rs) == sends)

module _ {Level : Type 0} (made : ℤ → ℤ → Level) (below : Level → Level → Bool) (o : Written) where
  abbrev pub shows : Marked → Result (List Record) ReadFault → Bool
  shows m (Ok rs) = counts_of rs m.threads m.moves m.sends && same_breach (first_breach (program_of made rs) below) m.breach
  shows m (Err f) = false

  abbrev pub holds_under : Marked → Bool
  holds_under m = shows m (reading o (codes m.text) 800)

abbrev pub holds : Marked → Bool
holds m = cond m.zoned (holds_under zone_level zone_below zone_written m) (holds_under rank_level int_lt rank_written m)

-- the order of a plan
abbrev pub under_rank : Bool
under_rank = false

abbrev pub under_zone : Bool
under_zone = true

abbrev pub cleared : Bool → String → ℕ → ℕ → ℕ → Marked
cleared zoned text threads moves sends = record { zoned = zoned; text = text; threads = threads; moves = moves; sends = sends; breach = None }

abbrev pub breaks : Bool → String → ℕ → ℕ → ℕ → ℕ → ℕ → ℕ → Marked
breaks zoned text threads moves sends number line object =
    record { zoned = zoned; text = text; threads = threads; moves = moves; sends = sends; breach = Some (record { number = number; line = line; object = object }) }

-- threads, moves and sends, and then of a breach its number, its line and its object; LOAD, AXIS and LEFT are object 0, DONE is object 1
abbrev pub marked : List Marked
marked =
    cleared under_rank "P,RANK\nC,LOAD,20\nC,DONE,10\nT,HOIST\nQ,LOAD,1\nQ,DONE,-1\nR,LOAD\nS,DONE,0\nT,MAIN\nF,HOIST\nS,LOAD,7\nR,DONE\n" 2 7 2
    ∷ breaks under_rank "P,RANK\nC,LOAD,10\nC,DONE,20\nT,HOIST\nQ,LOAD,1\nQ,DONE,-1\nR,LOAD\nS,DONE,0\nT,MAIN\nF,HOIST\nS,LOAD,7\nR,DONE\n" 2 7 2 22 7 1
    ∷ breaks under_rank "P,RANK\nC,LOAD,10\nC,DONE,10\nT,HOIST\nQ,LOAD,1\nQ,DONE,-1\nR,LOAD\nS,DONE,0\nT,MAIN\nF,HOIST\nS,LOAD,7\nR,DONE\n" 2 7 2 22 7 1
    ∷ cleared under_rank "P,RANK\nT,MAIN\n" 1 1 0
    ∷ cleared under_rank "P,RANK\nC,LOAD,5\nT,MAIN\nS,LOAD,1\nR,LOAD\n" 1 3 1
    ∷ breaks under_rank "P,RANK\nC,LOAD,5\nT,MAIN\nR,LOAD\n" 1 2 0 21 4 0
    ∷ breaks under_rank "P,RANK\nC,LOAD,5\nW,LOAD,LOAD,1\nT,MAIN\nS,LOAD,1\nR,LOAD\n" 1 3 1 21 6 0
    ∷ breaks under_rank "P,RANK\nK,AXIS,5\nT,MAIN\nA,AXIS\nA,AXIS\n" 1 3 0 23 5 0
    ∷ breaks under_rank "P,RANK\nK,AXIS,5\nT,MAIN\nA,AXIS\n" 1 2 0 26 3 0
    ∷ breaks under_rank "P,RANK\nK,AXIS,5\nT,MAIN\nL,AXIS\n" 1 2 0 24 4 0
    ∷ breaks under_rank "P,RANK\nC,LOAD,5\nT,HOIST\nQ,LOAD,-1\nT,MAIN\nF,HOIST\n" 2 3 0 25 3 0
    ∷ breaks under_zone "P,ZONE\nK,LEFT,1,5\nK,RIGHT,2,9\nT,MAIN\nA,LEFT\nA,RIGHT\nL,RIGHT\nL,LEFT\n" 1 5 0 23 6 0
    ∷ cleared under_rank "P,RANK\nC,X,1\nT,A\nS,X,1\nT,B\nF,A\nF,A\nT,MAIN\nF,B\nF,A\n" 5 12 3
    ∷ []

-- every marked plan counts what it says, and has the verdict that it says
abbrev pub Verdicts : Type 0
Verdicts = every holds marked ≡ true
