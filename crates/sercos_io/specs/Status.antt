-- The exit statuses and their names.
use Rattle.std.specs.Prelude.{ℕ, List, codes}
use Rattle.sercos_io.specs.declared.status.Status.{Status}
use Rattle.sercos_io.specs.declared.status.Status.TheVariants.{Done, No, BadWords, Refused, ReadFault, WriteFault, Memory, TooLong}

-- the exit status of a process
abbrev pub status_code : Status → ℕ
status_code Done = 0
status_code No = 1
status_code BadWords = 2
status_code Refused = 3
status_code ReadFault = 4
status_code WriteFault = 5
status_code Memory = 6
status_code TooLong = 7

-- the name that is printed
abbrev pub status_name : Status → List ℕ
status_name Done = codes "Done"
status_name No = codes "No"
status_name BadWords = codes "BadWords"
status_name Refused = codes "Refused"
status_name ReadFault = codes "ReadFault"
status_name WriteFault = codes "WriteFault"
status_name Memory = codes "Memory"
status_name TooLong = codes "TooLong"
