-- The bytes of a swim log: its numbers, its sizes, and the head and the body of each record. Assumes nothing.
use Rattle.std.specs.Prelude.{ℕ, ◌+◌, ◌*◌, cond, List, length, ℤ, pos, ◌-ℤ◌, Ok, Err, Result, nat_le, nat_lt, slice_index}
use Rattle.swimlog.specs.declared.fault.FieldFault.{FieldFault}
use Rattle.swimlog.specs.declared.fault.FieldFault.TheVariants.{CutOff}
use Rattle.swimlog.specs.declared.field.Head.{Head}
use Rattle.swimlog.specs.declared.field.Body.{Body}

-- ---- numbers, their least byte first

abbrev pub byte_at : List ℕ → ℕ → ℕ
byte_at bytes at = slice_index bytes at

abbrev pub two_bytes_at : List ℕ → ℕ → ℕ
two_bytes_at bytes at = byte_at bytes at + 256 * byte_at bytes (at + 1)

abbrev pub four_bytes_at : List ℕ → ℕ → ℕ
four_bytes_at bytes at = two_bytes_at bytes at + 65536 * two_bytes_at bytes (at + 2)

-- 32 bits as a signed number: from 2 to the power 31 on they stand for a negative one
abbrev pub twos_complement : ℕ → ℤ
twos_complement n = cond (nat_lt n 2147483648) (pos n) (pos n -ℤ pos 4294967296)

abbrev pub number_at : List ℕ → ℕ → ℤ
number_at bytes at = twos_complement (four_bytes_at bytes at)

-- ---- where each part stands: the sizes, then all heads, then all bodies

abbrev pub gates_of : List ℕ → ℕ
gates_of bytes = two_bytes_at bytes 0

abbrev pub records_of : List ℕ → ℕ
records_of bytes = two_bytes_at bytes 2

abbrev pub sizes_length : ℕ
sizes_length = 4

abbrev pub head_length : ℕ
head_length = 6

abbrev pub body_length : ℕ
body_length = 24

abbrev pub log_length : (records : ℕ) → ℕ
log_length records = sizes_length + (head_length + body_length) * records

abbrev pub head_start : (index : ℕ) → ℕ
head_start index = sizes_length + head_length * index

abbrev pub body_start : (records index : ℕ) → ℕ
body_start records index = sizes_length + head_length * records + body_length * index

-- ---- the fields of a record

abbrev pub head_at : List ℕ → ℕ → Head
head_at bytes at =
    record {
      kind = byte_at bytes at;
      axis = byte_at bytes (at + 1);
      p = two_bytes_at bytes (at + 2);
      q = two_bytes_at bytes (at + 4);
    }

abbrev pub body_at : List ℕ → ℕ → Body
body_at bytes at =
    record {
      b0 = number_at bytes at;
      b1 = number_at bytes (at + 4);
      b2 = number_at bytes (at + 8);
      b3 = number_at bytes (at + 12);
      b4 = number_at bytes (at + 16);
      b5 = number_at bytes (at + 20);
    }

abbrev pub head_of : List ℕ → (index : ℕ) → Head
head_of bytes index = head_at bytes (head_start index)

abbrev pub body_of : List ℕ → (records index : ℕ) → Body
body_of bytes records index = body_at bytes (body_start records index)

-- ---- what reading a field answers: its value, or that the bytes end before it does

abbrev pub field : {X : Type 0} → List ℕ → (end : ℕ) → X → Result X FieldFault
field bytes end value = cond (nat_le end (length bytes)) (Ok value) (Err CutOff)
