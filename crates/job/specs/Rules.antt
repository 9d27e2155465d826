-- Which sizes and which names a job may have.
use Rattle.std.specs.Prelude.{ℕ, Bool, ◌&&◌, ◌||◌, List, length, ◌==◌, nat_le}
use Rattle.std.specs.List.{list_all}

-- A size is 1 to 10,000 units.
abbrev pub good_size : ℕ → Bool
good_size z = nat_le 1 z && nat_le z 10000

-- A byte of a name is a to z, 0 to 9 or a hyphen.
abbrev pub name_byte : ℕ → Bool
name_byte b = (nat_le 97 b && nat_le b 122) || ((nat_le 48 b && nat_le b 57) || b == 45)

-- Every byte is one of a name.
abbrev pub name_bytes : List ℕ → Bool
name_bytes bs = list_all name_byte bs

-- A name has 1 to 8 bytes.
abbrev pub good_name : List ℕ → Bool
good_name bs = nat_le 1 (length bs) && (nat_le (length bs) 8 && name_bytes bs)
