-- Work takes as many ticks as it says.
use Rattle.std.proofs.Common.{◌≡◌, ◌∙◌, refl, ap, sym, subst, ◌<◌, ◌≤◌, ◌+◌, ◌-◌, ◌*◌, ◌/◌, ◌%◌, ◌^◌, ℕ, zero, suc, Bool, true, false, List, length, arith}
use Rattle.std.specs.Prelude.{◌==◌, nat_lt, nat_le, if◌then◌else◌, slice_range}
use Rattle.std.specs.Option.{option_map_or}
use Rattle.std.proofs.lemmas.Bool.Decides.{nat_tests}
use Rattle.std.proofs.lemmas.List.{length-set, get_or-set_same}
use Rattle.dk_isa.specs.declared.Instr.{Instr}
use Rattle.dk_isa.specs.declared.FaultKind.{FaultKind}
use Rattle.dk_isa.specs.Table.{instruction_of}
use Rattle.dk_cpu.specs.declared.Context.{Context}
use Rattle.dk_cpu.specs.Machine.{body_tick, execute, fault, jump, next, offset, put, ran, reg, set}
use Rattle.dk_replay.specs.Code.{counted, counted_far, single}
use Rattle.dk_replay.specs.Laws.{HasCode, IsAt, Runs, StandsAt, WorkTakes}

-- the context at this place counts this number of rounds
pub record Counts (at r : ℕ) (x : Context) : Type 0 where
  pub stands : StandsAt at x
  pub value : reg x 1 ≡ r

some_left : (v r : ℕ) → v ≡ suc r → (v == 0) ≡ false
some_left v r e = grind (arith, nat_tests)

none_left : (v : ℕ) → v ≡ 0 → (v == 0) ≡ true
none_left v e = grind (arith, nat_tests)

-- less one, modulo the words
wrap : (r : ℕ) → suc r < 2 ^ 32 → (suc r + 4294967295) % 4294967296 ≡ r
wrap r h = omega arith

stands_next : (at : ℕ) (x : Context) (v : ℕ) → StandsAt at x → StandsAt (at + 1) (set x 1 v)
stands_next at x v s = record {
  place = ap (λ n. n + 1) s.place;
  registers = length-set x.regs 1 v ∙ s.registers;
  left = s.left;
}

pub loaded : (at : ℕ) (x : Context) (v : ℕ) → StandsAt at x → Counts (at + 1) v (set x 1 v)
loaded at x v s = record {
  stands = stands_next at x v s;
  value = let room : 1 < length x.regs = omega (arith, s.registers) in get_or-set_same x.regs 1 v 0 room;
}

moved : (at to : ℕ) (x : Context) → StandsAt at x → at ≡ to → StandsAt to x
moved at to x s e = subst (λ p. StandsAt p x) e s

stepped : (at : ℕ) (x : Context) → StandsAt at x → StandsAt (at + 1) (next x)
stepped at x s = record { place = ap (λ n. n + 1) s.place; registers = s.registers; left = s.left }

module _ (cost : ℕ) (code memory : List ℕ) where
  pub fetched : (i : Instr) (x : Context) → IsAt code x.pc i → body_tick cost code x memory ≡ execute cost i x memory
  fetched i x is =
      let within : 4 * x.pc + 4 ≤ length code = is.within in
      let whole : nat_lt (length code) (4 * x.pc + 4) ≡ false = grind (arith, nat_tests) in
      ap (λ short. if short then fault FaultKind.Fetch x memory else option_map_or (λ j. execute cost j x memory) (instruction_of (slice_range code (4 * x.pc) (4 * x.pc + 4))) (fault FaultKind.Decode x memory)) whole
      ∙ ap (λ read. option_map_or (λ j. execute cost j x memory) read (fault FaultKind.Decode x memory)) is.reads

  -- one tick more, by the instruction where the context stands
  pub more : (n at : ℕ) (i : Instr) (x y z : Context) → Runs cost code memory n x y → IsAt code at i → StandsAt at y
      → execute cost i y memory ≡ ran z memory → Runs cost code memory (suc n) x z
  more n at i x y z runs is s does =
      (y, memory, runs, fetched i y (subst (λ p. IsAt code p i) (sym s.place) is) ∙ does)

  -- a round: one less, and back while something is left
  lessened : (at r : ℕ) (x : Context) → Counts at (suc r) x → suc r < 2 ^ 32 → Counts (at + 1) r (put x 1 (reg x 1 + offset 65535))
  lessened at r x c small = record {
    stands = stands_next at x ((reg x 1 + 4294967295) % 4294967296) c.stands;
    value =
        let room : 1 < length x.regs = omega (arith, c.stands.registers) in
        get_or-set_same x.regs 1 ((reg x 1 + 4294967295) % 4294967296) 0 room
        ∙ (ap (λ v. (v + 4294967295) % 4294967296) c.value ∙ wrap r small);
  }

  back : (at r imm : ℕ) (x : Context) → Counts at (suc r) x → execute cost (Instr.Jnz 1 imm) x memory ≡ ran (jump x imm) memory
  back at r imm x c =
      let some = some_left (reg x 1) r c.value in
      ap (λ none. ran (if none then next x else jump x imm) memory) some

  on : (at imm : ℕ) (x : Context) → Counts at 0 x → execute cost (Instr.Jnz 1 imm) x memory ≡ ran (next x) memory
  on at imm x c =
      let none = none_left (reg x 1) c.value in
      ap (λ none. ran (if none then next x else jump x imm) memory) none

  again : (at r : ℕ) (x : Context) → Counts (at + 1) (suc r) x → Counts at (suc r) (jump x at)
  again at r x c = record {
    stands = record { place = refl; registers = c.stands.registers; left = c.stands.left };
    value = c.value;
  }

  -- all rounds, two ticks each
  rounds : (at r k : ℕ) (x y : Context) → IsAt code at (Instr.Addi 1 65535) → IsAt code (at + 1) (Instr.Jnz 1 at)
      → Runs cost code memory k x y → Counts at (suc r) y → suc r < 2 ^ 32
      → (z : Context) × Runs cost code memory (k + 2 * suc r) x z × StandsAt (at + 2) z
  rounds at zero k x y counts jumps runs c small =
      let less : Context = put y 1 (reg y 1 + offset 65535) in
      let done = lessened at zero y c small in
      let one = more k at (Instr.Addi 1 65535) x y less runs counts c.stands refl in
      let two = more (suc k) (at + 1) (Instr.Jnz 1 at) x less (next less) one jumps done.stands (on (at + 1) at less done) in
      let e : suc (suc k) ≡ k + 2 * suc zero = omega arith in (
        next less,
        subst (λ n. Runs cost code memory n x (next less)) e two,
        moved (at + 1 + 1) (at + 2) (next less) (stepped (at + 1) less done.stands) (omega arith),
      )
  rounds at (suc r) k x y counts jumps runs c small =
      let less : Context = put y 1 (reg y 1 + offset 65535) in
      let done = lessened at (suc r) y c small in
      let one = more k at (Instr.Addi 1 65535) x y less runs counts c.stands refl in
      let two = more (suc k) (at + 1) (Instr.Jnz 1 at) x less (jump less at) one jumps done.stands (back (at + 1) r at less done) in
      let rest = rounds at r (suc (suc k)) x (jump less at) counts jumps two (again at r less done) (omega arith) in
      let e : suc (suc k) + 2 * suc r ≡ k + 2 * suc (suc r) = omega arith in
      (rest.0, subst (λ n. Runs cost code memory n x rest.0) e rest.1, rest.2)

  pub none : (x : Context) → Runs cost code memory 0 x x
  none x = (refl, refl)

  -- nothing more, or a tick that does nothing
  ended : (at k : ℕ) (odd : Bool) (x y : Context) → (odd ≡ true → IsAt code at Instr.Nop) → Runs cost code memory k x y → StandsAt at y
      → (z : Context) × Runs cost code memory (k + (if odd then 1 else 0)) x z × StandsAt (at + (if odd then 1 else 0)) z
  ended at k true x y is runs s =
      let e : suc k ≡ k + 1 = omega arith in (
        next y,
        subst (λ n. Runs cost code memory n x (next y)) e (more k at Instr.Nop x y (next y) runs (is refl) s refl),
        stepped at y s,
      )
  ended at k false x y is runs s =
      let e : k ≡ k + 0 = omega arith in
      (y, subst (λ n. Runs cost code memory n x y) e runs, moved at (at + 0) y s (omega arith))

  abbrev Took : ℕ → ℕ → Context → Type 0
  Took n to x = (y : Context) × Runs cost code memory n x y × StandsAt to y

  renamed : (m n at to : ℕ) (x : Context) → Took m at x → m ≡ n → at ≡ to → Took n to x
  renamed m n at to x took e f =
      (took.0, subst (λ k. Runs cost code memory k x took.0) e took.1, moved at to took.0 took.2 f)

  placed : (at to : ℕ) (i : Instr) → IsAt code at i → at ≡ to → IsAt code to i
  placed at to i is e = subst (λ p. IsAt code p i) e is

  -- the loop and the tick behind it, from where the number of rounds is loaded
  looped : (at k r : ℕ) (odd : Bool) (x y : Context) → IsAt code at (Instr.Addi 1 65535) → IsAt code (at + 1) (Instr.Jnz 1 at)
      → (odd ≡ true → IsAt code (at + 2) Instr.Nop) → Runs cost code memory k x y → Counts at (suc r) y → suc r < 2 ^ 32
      → Took (k + 2 * suc r + (if odd then 1 else 0)) (at + 2 + (if odd then 1 else 0)) x
  looped at k r odd x y counts jumps nop runs c small =
      let round = rounds at r k x y counts jumps runs c small in
      ended (at + 2) (k + 2 * suc r) odd x round.0 nop round.1 round.2

  near : (at r : ℕ) (odd : Bool) (x : Context) → HasCode code at (counted at (suc r) odd) → suc r < 2 ^ 32 → StandsAt at x
      → Took (1 + 2 * suc r + (if odd then 1 else 0)) (at + 3 + (if odd then 1 else 0)) x
  near at r true x has small s =
      let y : Context = set x 1 (suc r) in
      let one = more 0 at (Instr.Li 1 (suc r)) x x y (none x) has.0 s refl in
      let took = looped (at + 1) 1 r true x y has.1.0 has.1.1.0 (λ odd. placed (at + 1 + 1 + 1) (at + 1 + 2) Instr.Nop has.1.1.1.0 (omega arith)) one (loaded at x (suc r) s) small in
      renamed (1 + 2 * suc r + 1) (1 + 2 * suc r + 1) (at + 1 + 2 + 1) (at + 3 + 1) x took refl (omega arith)
  near at r false x has small s =
      let y : Context = set x 1 (suc r) in
      let one = more 0 at (Instr.Li 1 (suc r)) x x y (none x) has.0 s refl in
      let took = looped (at + 1) 1 r false x y has.1.0 has.1.1.0 (λ odd. absurd (cc)) one (loaded at x (suc r) s) small in
      renamed (1 + 2 * suc r + 0) (1 + 2 * suc r + 0) (at + 1 + 2 + 0) (at + 3 + 0) x took refl (omega arith)

  -- the number of rounds in two halves
  whole : (r low : ℕ) → low ≡ r % 65536 → (r / 65536) * 65536 + low % 65536 ≡ r
  whole r low e = omega arith

  far_loaded : (at r : ℕ) (x : Context) → StandsAt at x → Counts (at + 1 + 1) r (set (set x 1 (r % 65536)) 1 ((r / 65536) * 65536 + reg (set x 1 (r % 65536)) 1 % 65536))
  far_loaded at r x s =
      let low = loaded at x (r % 65536) s in
      let y : Context = set x 1 (r % 65536) in
      let high = loaded (at + 1) y ((r / 65536) * 65536 + reg y 1 % 65536) low.stands in
      record { stands = high.stands; value = high.value ∙ whole r (reg y 1) low.value }

  far : (at r : ℕ) (odd : Bool) (x : Context) → HasCode code at (counted_far at (suc r) odd) → suc r < 2 ^ 32 → StandsAt at x
      → Took (2 + 2 * suc r + (if odd then 1 else 0)) (at + 4 + (if odd then 1 else 0)) x
  far at r true x has small s =
      let y : Context = set x 1 (suc r % 65536) in
      let z : Context = set y 1 ((suc r / 65536) * 65536 + reg y 1 % 65536) in
      let low = loaded at x (suc r % 65536) s in
      let one = more 0 at (Instr.Li 1 (suc r % 65536)) x x y (none x) has.0 s refl in
      let two = more 1 (at + 1) (Instr.Lih 1 (suc r / 65536)) x y z one has.1.0 low.stands refl in
      let e : at + 1 + 1 ≡ at + 2 = omega arith in
      let c : Counts (at + 2) (suc r) z = subst (λ p. Counts p (suc r) z) e (far_loaded at (suc r) x s) in
      let took = looped (at + 2) 2 r true x z (placed (at + 1 + 1) (at + 2) (Instr.Addi 1 65535) has.1.1.0 e)
      (placed (at + 1 + 1 + 1) (at + 2 + 1) (Instr.Jnz 1 (at + 2)) has.1.1.1.0 (omega arith))
      (λ odd. placed (at + 1 + 1 + 1 + 1) (at + 2 + 2) Instr.Nop has.1.1.1.1.0 (omega arith)) two c small in
      renamed (2 + 2 * suc r + 1) (2 + 2 * suc r + 1) (at + 2 + 2 + 1) (at + 4 + 1) x took refl (omega arith)
  far at r false x has small s =
      let y : Context = set x 1 (suc r % 65536) in
      let z : Context = set y 1 ((suc r / 65536) * 65536 + reg y 1 % 65536) in
      let low = loaded at x (suc r % 65536) s in
      let one = more 0 at (Instr.Li 1 (suc r % 65536)) x x y (none x) has.0 s refl in
      let two = more 1 (at + 1) (Instr.Lih 1 (suc r / 65536)) x y z one has.1.0 low.stands refl in
      let e : at + 1 + 1 ≡ at + 2 = omega arith in
      let c : Counts (at + 2) (suc r) z = subst (λ p. Counts p (suc r) z) e (far_loaded at (suc r) x s) in
      let took = looped (at + 2) 2 r false x z (placed (at + 1 + 1) (at + 2) (Instr.Addi 1 65535) has.1.1.0 e)
      (placed (at + 1 + 1 + 1) (at + 2 + 1) (Instr.Jnz 1 (at + 2)) has.1.1.1.0 (omega arith))
      (λ odd. absurd (cc)) two c small in
      renamed (2 + 2 * suc r + 0) (2 + 2 * suc r + 0) (at + 2 + 2 + 0) (at + 4 + 0) x took refl (omega arith)

  few : (at n : ℕ) (x : Context) → n < 3 → HasCode code at (single n) → StandsAt at x → Took n (at + n) x
  few at zero x h has s = (x, none x, moved at (at + 0) x s (omega arith))
  few at (suc zero) x h has s = (next x, more 0 at Instr.Nop x x (next x) (none x) has.0 s refl, stepped at x s)
  few at (suc (suc zero)) x h has s =
      let one = more 0 at Instr.Nop x x (next x) (none x) has.0 s refl in
      let two = more 1 (at + 1) Instr.Nop x (next x) (next (next x)) one has.1.0 (stepped at x s) refl in
      (next (next x), two, moved (at + 1 + 1) (at + 2) (next (next x)) (stepped (at + 1) (next x) (stepped at x s)) (omega arith))
  few at (suc (suc (suc n))) x h has s = absurd (omega arith)

  -- the two forms of a loop, by the numbers of which they are made
  near_whole : (at n v o : ℕ) (x : Context) → HasCode code at (counted at v (o == 1)) → o < 2 → 0 < v → v < 2 ^ 32 → StandsAt at x
      → n ≡ 1 + 2 * v + o → Took n (at + (3 + o)) x
  near_whole at n zero o x has half some small s e = absurd (omega arith)
  near_whole at n (suc r) zero x has half some small s e =
      renamed (1 + 2 * suc r + 0) n (at + 3 + 0) (at + (3 + 0)) x (near at r false x has small s) (omega arith) (omega arith)
  near_whole at n (suc r) (suc zero) x has half some small s e =
      renamed (1 + 2 * suc r + 1) n (at + 3 + 1) (at + (3 + 1)) x (near at r true x has small s) (omega arith) (omega arith)
  near_whole at n (suc r) (suc (suc o)) x has half some small s e = absurd (omega arith)

  far_whole : (at n v o : ℕ) (x : Context) → HasCode code at (counted_far at v (o == 1)) → o < 2 → 0 < v → v < 2 ^ 32 → StandsAt at x
      → n ≡ 2 + 2 * v + o → Took n (at + (4 + o)) x
  far_whole at n zero o x has half some small s e = absurd (omega arith)
  far_whole at n (suc r) zero x has half some small s e =
      renamed (2 + 2 * suc r + 0) n (at + 4 + 0) (at + (4 + 0)) x (far at r false x has small s) (omega arith) (omega arith)
  far_whole at n (suc r) (suc zero) x has half some small s e =
      renamed (2 + 2 * suc r + 1) n (at + 4 + 1) (at + (4 + 1)) x (far at r true x has small s) (omega arith) (omega arith)
  far_whole at n (suc r) (suc (suc o)) x has half some small s e = absurd (omega arith)

  -- whichever of the three forms
  chosen : (at n : ℕ) (x : Context) (short close : Bool) → nat_lt n 3 ≡ short → nat_le n 131072 ≡ close → n < 2 ^ 32
      → HasCode code at
      (if short then single n else (
      if close then counted at ((n - 1) / 2) ((n - 1) % 2 == 1)
      else counted_far at ((n - 2) / 2) ((n - 2) % 2 == 1)))
      → StandsAt at x
      → Took n (at + (if short then n else (if close then 3 + (n - 1) % 2 else 4 + (n - 2) % 2))) x
  chosen at n x true close f g small has s = let h : n < 3 = grind (arith, nat_tests) in few at n x h has s
  chosen at n x false true f g small has s =
      let h : 3 ≤ n = grind (arith, nat_tests) in
      near_whole at n ((n - 1) / 2) ((n - 1) % 2) x has (omega arith) (omega arith) (omega arith) s (omega arith)
  chosen at n x false false f g small has s =
      let h : 131072 < n = grind (arith, nat_tests) in
      far_whole at n ((n - 2) / 2) ((n - 2) % 2) x has (omega arith) (omega arith) (omega arith) s (omega arith)

pub work_takes : WorkTakes
work_takes cost code memory at n x has small s =
    chosen cost code memory at n x (nat_lt n 3) (nat_le n 131072) refl refl small has s
