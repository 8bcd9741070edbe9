-- The items of an LPD client's stream, as plain data (RFC 1179, sections 5 and 6).
use Rattle.std.specs.Prelude.{ℕ, List, [], Result, Ok, Err}
use Rattle.lpd.specs.declared.fault.LpdFault.{LpdFault}
use Rattle.lpd.specs.declared.item.FileHead.{FileHead}
use Rattle.lpd.specs.declared.item.LpdCommand.{LpdCommand}
use Rattle.lpd.specs.declared.item.LpdCommand.TheVariants.{PrintWaiting, ReceiveJob, ListShort, ListLong, RemoveJobs}
use Rattle.lpd.specs.declared.item.LpdItem.{LpdItem}
use Rattle.lpd.specs.declared.item.LpdItem.TheVariants as item
use Rattle.lpd.specs.declared.reader.Awaited.{Awaited}
use Rattle.lpd.specs.declared.reader.Awaited.TheVariants as await

pub data CommandRecord : Type 0 where
  PrintsWaiting : (queue : List ℕ) → CommandRecord
  ReceivesJob : (queue : List ℕ) → CommandRecord
  ListsShort : (queue : List ℕ) (operands : List (List ℕ)) → CommandRecord
  ListsLong : (queue : List ℕ) (operands : List (List ℕ)) → CommandRecord
  RemovesJobs : (queue agent : List ℕ) (operands : List (List ℕ)) → CommandRecord

pub data ItemRecord : Type 0 where
  HasCommand : CommandRecord → ItemRecord
  Aborts : ItemRecord
  Announces : FileHead → ItemRecord
  HasFile : (contents : List ℕ) → ItemRecord

abbrev pub command_record : LpdCommand → CommandRecord
command_record (PrintWaiting queue) = PrintsWaiting queue
command_record (ReceiveJob queue) = ReceivesJob queue
command_record (ListShort queue operands) = ListsShort queue operands.items
command_record (ListLong queue operands) = ListsLong queue operands.items
command_record (RemoveJobs queue agent operands) = RemovesJobs queue agent operands.items

-- the record of an item, with the file that the reader lends
abbrev pub item_record : LpdItem → List ℕ → ItemRecord
item_record (item.Command command) file = HasCommand (command_record command)
item_record item.Abort file = Aborts
item_record (item.Announced head) file = Announces head
item_record item.File file = HasFile file

-- the record of a line's item, or its fault
abbrev pub line_record : Result LpdItem LpdFault → Result ItemRecord LpdFault
line_record (Ok parsed) = Ok (item_record parsed [])
line_record (Err fault) = Err fault

-- the part that is awaited after an item: a subcommand after the command to receive a job, and the file after its announcement. Nothing is awaited after any other command, since a connection has one command
abbrev pub awaited_after_command : CommandRecord → Awaited
awaited_after_command (PrintsWaiting queue) = await.Nothing
awaited_after_command (ReceivesJob queue) = await.Subcommand
awaited_after_command (ListsShort queue operands) = await.Nothing
awaited_after_command (ListsLong queue operands) = await.Nothing
awaited_after_command (RemovesJobs queue agent operands) = await.Nothing

abbrev pub awaited_after : ItemRecord → Awaited
awaited_after (HasCommand command) = awaited_after_command command
awaited_after Aborts = await.Subcommand
awaited_after (Announces head) = await.File head.length
awaited_after (HasFile contents) = await.Subcommand
