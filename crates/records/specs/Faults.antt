-- The number of each fault of reading, the line that it names, and its layer.
use Rattle.std.specs.Prelude.{ℕ}
use Rattle.records.specs.declared.fault.Cause.{Cause}
use Rattle.records.specs.declared.fault.Cause.TheVariants.{Bytes, Letter, Count, Form, Declared, Unknown, Twice, Full}
use Rattle.records.specs.declared.fault.Layer.{Layer}
use Rattle.records.specs.declared.fault.Layer.TheVariants.{Reading}
use Rattle.records.specs.declared.fault.ReadFault.{ReadFault}
use Rattle.records.specs.declared.fault.ReadFault.TheVariants.{TextTooLong, SheetTooShort, SheetDiffers, BadLine, NoTask, NeverStarted, MainHasCounts, TooManyThreads, TooManySends}

abbrev pub cause_number : Cause → ℕ
cause_number Bytes = 3
cause_number Letter = 4
cause_number Count = 5
cause_number Form = 6
cause_number Declared = 7
cause_number Unknown = 8
cause_number Twice = 9
cause_number Full = 10

abbrev pub number_of : ReadFault → ℕ
number_of TextTooLong = 1
number_of SheetTooShort = 2
number_of SheetDiffers = 2
number_of (BadLine cause line) = cause_number cause
number_of NoTask = 11
number_of (NeverStarted line) = 12
number_of (MainHasCounts line) = 13
number_of TooManyThreads = 14
number_of TooManySends = 15

-- the line, from 1; a fault that names none has line 0
abbrev pub line_of : ReadFault → ℕ
line_of TextTooLong = 0
line_of SheetTooShort = 0
line_of SheetDiffers = 0
line_of (BadLine cause line) = line
line_of NoTask = 0
line_of (NeverStarted line) = line
line_of (MainHasCounts line) = line
line_of TooManyThreads = 0
line_of TooManySends = 0

-- the layer that refuses
abbrev pub layer_of : ReadFault → Layer
layer_of f = Reading
