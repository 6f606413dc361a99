-- What is known of bytes that wait to be handed on.
use Rattle.std.specs.Prelude.{ℕ, ◌<◌, List, drop, take}
use Rattle.dk_edge.specs.declared.buffer.Buffer.{Buffer}

-- the bytes that wait
abbrev pub waiting_in : Buffer → List ℕ
waiting_in b = drop b.start (take b.end b.bytes.items)

-- it takes more
abbrev pub HasRoom : Buffer → Type 0
HasRoom b = b.end < 65536
