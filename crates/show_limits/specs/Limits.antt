-- The limits of needs and of profiles, as docs/FORMATS.md gives them.
use Rattle.std.specs.Prelude.{◌≡◌}
use Rattle.dk_needs.specs.declared.TheConstants.{MAX_AMOUNT, MAX_ID_BYTES, MAX_PERCENT, MAX_ROWS}
use Rattle.dk_needs_always.specs.declared.TheConstants.{ALWAYS_TICKS}
use Rattle.dk_profile.specs.declared.TheConstants.{MAX_INSTRUCTIONS, MAX_PROFILE_BYTES, MAX_VALUE, MAX_WORK}

-- Contracts name a limit by its constant; these are the constants' values.
pub record LimitsAreThese : Type 0 where
  -- of the rows of a section of needs, and of the name of a need
  pub rows : MAX_ROWS ≡ 256
  pub id_bytes : MAX_ID_BYTES ≡ 32
  -- of a percentage, and of the units that a tick has
  pub percent : MAX_PERCENT ≡ 1000000
  pub amount : MAX_AMOUNT ≡ 999999
  -- of the ticks that are searched for what is needed for ever
  pub always_ticks : ALWAYS_TICKS ≡ 1000000
  -- of a profile: of its bytes, of a step of work, of a number that it puts or asks for, and of its program
  pub profile_bytes : MAX_PROFILE_BYTES ≡ 1048576
  pub work : MAX_WORK ≡ 1000000
  pub value : MAX_VALUE ≡ 65535
  pub instructions : MAX_INSTRUCTIONS ≡ 16384
