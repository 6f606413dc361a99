-- What a word means at an operand's place.
use Rattle.std.specs.Prelude.{ℕ, ◌≡◌, ◌-◌, ◌<◌, true, ◌&&◌, nat_le, if◌then◌else◌, List, ◌++◌, ◌⊎◌, codes, decimal}
use Rattle.dk_config.specs.Rules.{is_name}
use Rattle.dk_asm.specs.declared.kind.Kind.{Kind}
use Rattle.dk_asm.specs.Words.{IsNumber}

-- the number of a register or a number, a label, or a number that is out of its range
pub data Operand : Type 0 where
  value : ℕ → Operand
  label : List ℕ → Operand
  outside : Operand

-- the value of a number that may be at most the limit
abbrev pub up_to : ℕ → ℕ → Operand
up_to limit n = if nat_le n limit then Operand.value n else Operand.outside

-- `-` and a number from 1 to 32,768 stand for 65536 less the number
abbrev pub negative : ℕ → Operand
negative n = if nat_le 1 n && nat_le n 32768 then Operand.value (65536 - n) else Operand.outside

abbrev pub register : ℕ → List ℕ
register r = codes "r" ++ decimal r

abbrev pub IsNumberUpTo : ℕ → List ℕ → Operand → Type 0
IsNumberUpTo limit word o = (n : ℕ) × IsNumber word n × (o ≡ up_to limit n)

-- a name of a configuration
abbrev pub IsLabel : List ℕ → Operand → Type 0
IsLabel word o = (is_name word ≡ true) × (o ≡ Operand.label word)

abbrev pub IsNegative : List ℕ → Operand → Type 0
IsNegative word o = (digits : List ℕ) × (n : ℕ) × (word ≡ codes "-" ++ digits) × IsNumber digits n × (o ≡ negative n)

-- the word means this operand at the place of one of this kind
abbrev pub IsOperand : Kind → List ℕ → Operand → Type 0
IsOperand Kind.Register word o = (r : ℕ) × (r < 8) × (word ≡ register r) × (o ≡ Operand.value r)
IsOperand Kind.Byte word o = IsNumberUpTo 255 word o
IsOperand Kind.Word word o = IsNumberUpTo 65535 word o
IsOperand Kind.Value word o = IsNumberUpTo 65535 word o ⊎ IsLabel word o
IsOperand Kind.Signed word o = IsNumberUpTo 65535 word o ⊎ (IsLabel word o ⊎ IsNegative word o)
