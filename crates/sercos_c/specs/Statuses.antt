-- The statuses that the calls return.
use Rattle.std.specs.Prelude.{ℕ}

abbrev pub done : ℕ
done = 0

abbrev pub answer_no : ℕ
answer_no = 1

abbrev pub refused : ℕ
refused = 3

-- the input could not be read
abbrev pub unreadable : ℕ
unreadable = 4

abbrev pub write_fault : ℕ
write_fault = 5

abbrev pub no_memory : ℕ
no_memory = 6

abbrev pub too_long : ℕ
too_long = 7

abbrev pub closed : ℕ
closed = 8
