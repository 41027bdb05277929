-- The arguments of the process, and the ending where they could not be read. This project's own.
use Rattle.std.specs.declared.io.ErrorKind.{ErrorKind}
use Rattle.std.specs.declared.io.ErrorKind.TheVariants.{OutOfMemory}
use Rattle.liszt_report.specs.declared.ended.Ended.{Ended}
use Rattle.liszt_report.specs.declared.ended.Ended.TheVariants.{Usage, NoMemory}

-- An argument that is no UTF-8 makes no command.
abbrev pub unread_ending : ErrorKind → Ended
unread_ending OutOfMemory = NoMemory
unread_ending _ = Usage
