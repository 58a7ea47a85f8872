-- A relay may be seen by many threads where its jobs may be sent to them.
use denote.RattleType.{RattleType}
use denote.Param.Send.{IsSend, IsSync, sendable}
use denote.Param.SendFields.{as_row_sync, declared_sync}
use denote.Struct.Field.{Field}
use Rattle.std.proofs.Crossing.{crosses, frees, send, sync}
use Rattle.std.proofs.option.Option.TheSendSync as option
use Rattle.std.specs.contracts.alloc.Global as Global
use Rattle.std.specs.contracts.impls.GlobalAllocator.TheImpl as heap
use Rattle.std.specs.contracts.option.Option as Option
use Rattle.crossbeam_queue.proofs.array_queue.Slotted.TheSendSync as queue
use Rattle.crossbeam_queue.specs.contracts.array_queue.Doing as Doing
use Rattle.crossbeam_queue.specs.contracts.array_queue.Slotted as Slotted
use Rattle.crossbeam_queue.specs.contracts.array_queue.Turns as Turns
use Rattle.crossbeam_queue.specs.contracts.array_queue.TurnsTableRuleOptionDoingUnit.TheImpl as turns
use Rattle.relay.specs.declared.job.Job.{Ghosts}
use Rattle.relay.specs.contracts.hand.Relay as Relay
use Rattle.relay.specs.contracts.rule.Each as Each
use Rattle.relay.specs.contracts.rule.EachProtocolKnows.TheImpl as each
use Rattle.relay.specs.contracts.rule.Knows as Knows

module _ (T : RattleType) (job : Ghosts T.Denot) (sent : IsSend T) where
  -- the queue of a relay
  abbrev Queue : Field
  Queue = Slotted.the_field (Option.the_row T) (Doing.the_row T (Knows.the_row T)) (Turns.the_row Each.the_row) Global.the_row
      (turns.ghosts T (Knows.the_row T) Each.the_row (each.ghosts T job each.no_dict each.no_dict) turns.no_dict) heap.ghosts

  queue-sync : IsSync Queue.row
  queue-sync = queue.the_field_sync (Option.the_row T) (Doing.the_row T (Knows.the_row T)) (Turns.the_row Each.the_row) Global.the_row
      (turns.ghosts T (Knows.the_row T) Each.the_row (each.ghosts T job each.no_dict each.no_dict) turns.no_dict) heap.ghosts
      (option.the_send T sent) send sync frees

  pub relay-sync : IsSync (Relay.the_row T job)
  relay-sync = declared_sync (Relay.the_type T job) (as_row_sync Queue queue-sync, (search (sendable, crosses) depth 40, tt))
