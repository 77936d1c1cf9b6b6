-- The number of each refusal, and the fault that an unlawful limit or trigger makes.
use Rattle.std.specs.Prelude.{ℕ}
use Rattle.trading.specs.declared.fault.BookFault.{BookFault}
use Rattle.trading.specs.declared.fault.BookFault.TheVariants.{NumberOutOfRange, QuantityOutOfRange, Unpaired, LimitUnlawful, TriggerUnlawful, OpeningNotPrice, ReportTooShort, NotWellFormed, WrongPhase, NumberLive, NumberNotLive, BookFull, StopReached, NoFirstTrade}
use Rattle.trading.specs.declared.fault.Part.{Part}
use Rattle.trading.specs.declared.fault.Part.TheVariants.{Limit, Trigger}
use Rattle.trading.specs.declared.fault.Unlawful.{Unlawful}
use Rattle.grid.specs.declared.GridFault.{GridFault}

abbrev pub refusal_number : BookFault → ℕ
refusal_number NumberOutOfRange = 1
refusal_number QuantityOutOfRange = 2
refusal_number Unpaired = 3
refusal_number (LimitUnlawful fault) = 4
refusal_number (TriggerUnlawful fault) = 4
refusal_number OpeningNotPrice = 5
refusal_number ReportTooShort = 6
refusal_number NotWellFormed = 21
refusal_number WrongPhase = 22
refusal_number NumberLive = 23
refusal_number NumberNotLive = 24
refusal_number BookFull = 25
refusal_number StopReached = 26
refusal_number NoFirstTrade = 27

abbrev pub fault_of_part : Part → GridFault → BookFault
fault_of_part Limit fault = LimitUnlawful fault
fault_of_part Trigger fault = TriggerUnlawful fault

abbrev pub as_book_fault : Unlawful → BookFault
as_book_fault u = fault_of_part u.part u.fault
