-- How a name's bytes are shown in a message. The ASCII control bytes, 0 to 31 and 127, may move a terminal's cursor or begin a command to it, so each is a question mark. Bytes from 128 on stay, so that
-- names in UTF-8 stay readable; control characters that UTF-8 encodes in two bytes are not looked for.
use Rattle.std.specs.Prelude.{ℕ, cond, ◌||◌, ltb, eqb}

-- 63 is the question mark.
abbrev pub shown_byte : ℕ → ℕ
shown_byte b = cond (ltb b 32 || eqb b 127) 63 b
