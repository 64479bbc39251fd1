-- How a fault gains its section, and what a test found.
use Rattle.std.specs.Prelude.{Some, None, Ok, Err, Option, Result}
use Rattle.sheet.specs.declared.fault.FieldFault.{FieldFault}
use Rattle.sheet.specs.declared.fault.Section.{Section}
use Rattle.sheet.specs.declared.fault.SheetFault.{SheetFault}

abbrev pub in_section : Section → FieldFault → SheetFault
in_section s e = record { flaw = e.flaw; section = s; place = e.place }

-- what a test found, if it found anything
abbrev pub found : {X E : Type 0} → Result X E → Option E
found (Ok _) = None
found (Err e) = Some e
