-- The limits, as docs/FORMATS.md gives them.
use Rattle.std.specs.Prelude.{◌≡◌}
use Rattle.dk_config.specs.declared.TheConstants.{MAX_CHILDREN, MAX_CONFIG_BYTES, MAX_COST, MAX_FILE_NAME_BYTES, MAX_LEDGER_BYTES, MAX_LEVELS, MAX_LEVELS_1, MAX_MEMORY, MAX_MUTEXES, MAX_NAME_BYTES, MAX_PROCESSES, MAX_PROGRAM_BYTES, MAX_RUN_TICKS, MAX_SPAN, MAX_TICKS}
use Rattle.dk_outside.specs.declared.TheConstants.{MAX_COUNT}
use Rattle.dk_asm.specs.declared.TheConstants.{MAX_INSTRUCTIONS, MAX_SOURCE_BYTES}
use Rattle.dk_plan.specs.declared.TheConstants.{MAX_ASKS}

-- Contracts name a limit by its constant; these are the constants' values.
pub record LimitsAreThese : Type 0 where
  -- of a configuration
  pub config_bytes : MAX_CONFIG_BYTES ≡ 65536
  pub levels_of_version_1 : MAX_LEVELS_1 ≡ 8
  pub levels : MAX_LEVELS ≡ 12
  pub processes : MAX_PROCESSES ≡ 32
  pub mutexes : MAX_MUTEXES ≡ 16
  -- of switch and call
  pub cost : MAX_COST ≡ 255
  -- of period, release, budget, hold and a wish for slack
  pub span : MAX_SPAN ≡ 1000000
  pub memory_words : MAX_MEMORY ≡ 4096
  pub children : MAX_CHILDREN ≡ 8
  pub name_bytes : MAX_NAME_BYTES ≡ 16
  pub file_name_bytes : MAX_FILE_NAME_BYTES ≡ 64
  -- of a program, a source and a listing
  pub program_bytes : MAX_PROGRAM_BYTES ≡ 65536
  pub instructions : MAX_INSTRUCTIONS ≡ 16384
  pub source_bytes : MAX_SOURCE_BYTES ≡ 1048576
  -- of harmonise
  pub asks : MAX_ASKS ≡ 32
  -- of a run and a ledger
  pub run_ticks : MAX_RUN_TICKS ≡ 10000000
  pub ledger_bytes : MAX_LEDGER_BYTES ≡ 1073741824
  -- of the ticks that a run can come to, whoever calls the kernel, and of the children that a process can make
  pub ticks : MAX_TICKS ≡ 4000000000
  -- the last value of a count of faults or strays, 2^64 - 1
  pub count : MAX_COUNT ≡ 18446744073709551615
