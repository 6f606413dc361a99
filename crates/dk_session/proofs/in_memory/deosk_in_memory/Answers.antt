use Rattle.dk_session.proofs.Names.{map, string_bytes, mem_files}
use Rattle.dk_session.proofs.Room.{room_kept}
use Rattle.dk_session.proofs.in_memory.deosk_in_memory.Goals as goal

pub returns-clause-room : goal.returns-clause-room
returns-clause-room c = λ room.
    room_kept (map string_bytes c.args.words.now) (mem_files c.args.depot.now) c.args.sink.now c.deosk-status.new.sink room
    c.bytes-before.ensures.full c.bytes-after.ensures.full c.deosk-status.result c.deosk-status.ensures.output
