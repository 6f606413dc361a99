-- Whatever a program does, its registers and its memory hold words of 32 bits, where its bytes are bytes.
use Rattle.dk_world.proofs.Names.{ℕ, ◌+◌, ◌-◌, ◌*◌, ◌/◌, ◌%◌, ◌^◌, ◌<◌, Bool, List, length, Option, arith, ◌==◌, nat_lt, slice_get, slice_set, slice_range, bit_and, bit_or, bit_xor, All, if◌then◌else◌, drop, option_map_or, get_or_past, All-set, All-take, All-drop, recursion_from_All, and_le_l, or_of_32, xor_of_32, mod-lt, mod-le, div-le_self, Instr, FaultKind, instruction_of, Context, KernelCall, Tick, word, reg, set, put, next, fault, ran, offset, divided, loaded, written, call_of, call_tick, execute, body_tick, nat_tests}
use Rattle.dk_cpu.specs.Machine.{jump}
use Rattle.dk_world.proofs.Each.{either, map_or, each_get}
use Rattle.dk_world.proofs.Instructions.{IsSmall, small_instruction}

abbrev pub IsWord : ℕ → Type 0
IsWord v = v < 2 ^ 32

abbrev pub Words : List ℕ → Type 0
Words xs = All IsWord xs

abbrev pub Bytes : List ℕ → Type 0
Bytes xs = All (λ b. b < 256) xs

abbrev pub IsWordTick : Tick → Type 0
IsWordTick t = Words t.context.regs × Words t.memory

pub reg_word : (x : Context) (a : ℕ) → Words x.regs → IsWord (reg x a)
reg_word x a h = grind (arith, nat_tests, get_or_past)

module _ (x : Context) (m : List ℕ) (r : Words x.regs) (w : Words m) where
  setting : (a v : ℕ) → IsWord v → IsWordTick (ran (set x a v) m)
  setting a v h = (All-set IsWord x.regs a v h r, w)

  putting : (a v : ℕ) → IsWordTick (ran (put x a v) m)
  putting a v = setting a (v % word) (mod-lt v (omega arith))

  dividing : (a divisor v : ℕ) → IsWord v → IsWordTick (divided x m a divisor v)
  dividing a divisor v h = either IsWordTick (divisor == 0) (fault FaultKind.Divide x m) (ran (set x a v) m) (r, w) (setting a v h)

  loading : (a address : ℕ) → IsWordTick (loaded x m a address)
  loading a address =
      map_or IsWord IsWordTick (λ v. ran (set x a v) m) (λ v h. setting a v h) (slice_get m address) (fault FaultKind.Memory x m)
      (each_get IsWord m address (recursion_from_All IsWord m w)) (r, w)

  writing : (address v : ℕ) → IsWord v → IsWordTick (written x m address v)
  writing address v h =
      either IsWordTick (nat_lt address (length m)) (ran (next x) (slice_set m address v)) (fault FaultKind.Memory x m) (r, All-set IsWord m address v h w) (r, w)

  trapping : (o : Option KernelCall) (left : ℕ) → IsWordTick (option_map_or (λ call. call_tick call left x m) o (fault FaultKind.Call x m))
  trapping o left = grind (arith, nat_tests)

  of : (a : ℕ) → IsWord (reg x a)
  of a = reg_word x a r

  jumping : (b : Bool) (p q : Context) → Words p.regs → Words q.regs → IsWordTick (ran (if b then p else q) m)
  jumping b p q h k = either (λ y. IsWordTick (ran y m)) b p q (h, w) (k, w)

  pub executed : (cost : ℕ) (i : Instr) → IsSmall i → IsWordTick (execute cost i x m)
  executed cost Instr.Nop h = (r, w)
  executed cost (Instr.Li a imm) h = setting a imm (omega (arith, h))
  executed cost (Instr.Lih a imm) h =
      let low : reg x a % 65536 < 65536 = mod-lt (reg x a) (omega arith) in setting a (imm * 65536 + reg x a % 65536) (omega (arith, h, low))
  executed cost (Instr.Mov a b) h = setting a (reg x b) (of b)
  executed cost (Instr.Add a b c) h = putting a (reg x b + reg x c)
  executed cost (Instr.Sub a b c) h = putting a (reg x b + (word - reg x c))
  executed cost (Instr.Mul a b c) h = putting a (reg x b * reg x c)
  executed cost (Instr.Div a b c) h =
      let le = div-le_self (reg x b) (reg x c) in let one = of b in dividing a (reg x c) (reg x b / reg x c) (omega (arith, le, one))
  executed cost (Instr.Rem a b c) h =
      let le = mod-le (reg x b) (reg x c) in let one = of b in dividing a (reg x c) (reg x b % reg x c) (omega (arith, le, one))
  executed cost (Instr.And a b c) h =
      let le = and_le_l (reg x b) (reg x c) in let one = of b in setting a (bit_and (reg x b) (reg x c)) (omega (arith, le, one))
  executed cost (Instr.Or a b c) h = setting a (bit_or (reg x b) (reg x c)) (or_of_32 (reg x b) (reg x c) (of b) (of c))
  executed cost (Instr.Xor a b c) h = setting a (bit_xor (reg x b) (reg x c)) (xor_of_32 (reg x b) (reg x c) (of b) (of c))
  executed cost (Instr.Shl a b c) h = putting a (reg x b * 2 ^ (reg x c % 32))
  executed cost (Instr.Shr a b c) h =
      let le = div-le_self (reg x b) (2 ^ (reg x c % 32)) in let one = of b in setting a (reg x b / 2 ^ (reg x c % 32)) (omega (arith, le, one))
  executed cost (Instr.Addi a imm) h = putting a (reg x a + offset imm)
  executed cost (Instr.Ld a b k) h = loading a (reg x b + k)
  executed cost (Instr.St a b k) h = writing (reg x b + k) (reg x a) (of a)
  executed cost (Instr.Jmp imm) h = (r, w)
  executed cost (Instr.Jz a imm) h = jumping (reg x a == 0) (jump x imm) (next x) r r
  executed cost (Instr.Jnz a imm) h = jumping (reg x a == 0) (next x) (jump x imm) r r
  executed cost (Instr.Slt a b c) h =
      setting a (if nat_lt (reg x b) (reg x c) then 1 else 0) (either IsWord (nat_lt (reg x b) (reg x c)) 1 0 (omega arith) (omega arith))
  executed cost (Instr.Jr a) h = (r, w)
  executed cost (Instr.Trap k) h =
      trapping (call_of k) (if x.left == 0 then cost - 1 else x.left - 1)

  pub ticked : (cost : ℕ) (code : List ℕ) → Bytes code → IsWordTick (body_tick cost code x m)
  ticked cost code h =
      let bytes = slice_range code (4 * x.pc) (4 * x.pc + 4) in
      let four : Bytes bytes = All-take (λ b. b < 256) (4 * x.pc + 4 - 4 * x.pc) (drop (4 * x.pc) code) (All-drop (λ b. b < 256) (4 * x.pc) code h) in
      either IsWordTick (nat_lt (length code) (4 * x.pc + 4)) (fault FaultKind.Fetch x m)
      (option_map_or (λ i. execute cost i x m) (instruction_of bytes) (fault FaultKind.Decode x m)) (r, w)
      (map_or IsSmall IsWordTick (λ i. execute cost i x m) (λ i small. executed cost i small) (instruction_of bytes) (fault FaultKind.Decode x m)
      (small_instruction bytes (recursion_from_All (λ b. b < 256) bytes four)) (r, w))
