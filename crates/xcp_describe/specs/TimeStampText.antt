-- What an A2L file says of time stamps, by TIMESTAMP_MODE and TIMESTAMP_TICKS.
-- (ASAM MCD-1 XCP, interface specification: TIMESTAMP_SUPPORTED; protocol layer, description of commands:
-- GET_DAQ_RESOLUTION_INFO.)
use Rattle.std.specs.Prelude.{ℕ, ◌%◌, ◌/◌, List, [], ◌++◌, codes, ◌==◌, if◌then◌else◌}
use Rattle.std.specs.Fmt.{decimal}

-- how many bytes a time stamp has
unfoldable pub size_word : ℕ → List ℕ
size_word n =
    if n == 1 then codes "SIZE_BYTE"
    else (if n == 2 then codes "SIZE_WORD"
    else (if n == 4 then codes "SIZE_DWORD"
    else codes "NO_TIME_STAMP"))

-- the unit of time; the last is that of 12
unfoldable pub unit_word : ℕ → List ℕ
unit_word n =
    if n == 0 then codes "UNIT_1NS"
    else (if n == 1 then codes "UNIT_10NS"
    else (if n == 2 then codes "UNIT_100NS"
    else (if n == 3 then codes "UNIT_1US"
    else (if n == 4 then codes "UNIT_10US"
    else (if n == 5 then codes "UNIT_100US"
    else (if n == 6 then codes "UNIT_1MS"
    else (if n == 7 then codes "UNIT_10MS"
    else (if n == 8 then codes "UNIT_100MS"
    else (if n == 9 then codes "UNIT_1S"
    else (if n == 10 then codes "UNIT_1PS"
    else (if n == 11 then codes "UNIT_10PS"
    else codes "UNIT_100PS")))))))))))

-- the line of a word
unfoldable pub word_line : List ℕ → List ℕ
word_line word = codes "          " ++ word ++ codes "\n"

-- the lines of the block: its first one, how many units a tick has, and how many bytes a time stamp has, with the unit and the last one
unfoldable pub begin_line : List ℕ
begin_line = codes "        /begin TIMESTAMP_SUPPORTED\n"

unfoldable pub ticks_line : ℕ → List ℕ
ticks_line ticks = codes "          " ++ decimal ticks ++ codes " /* ticks */\n"

unfoldable pub words_lines : ℕ → ℕ → List ℕ
words_lines size unit = word_line (size_word size) ++ word_line (unit_word unit) ++ codes "        /end TIMESTAMP_SUPPORTED\n"

-- the block of time stamps
abbrev pub stamp_block : ℕ → ℕ → ℕ → List ℕ
stamp_block ticks size unit = begin_line ++ ticks_line ticks ++ words_lines size unit

-- by TIMESTAMP_MODE, whose bits 0 to 2 are the size and 4 to 7 the unit: there is none where a time stamp has no byte
abbrev pub clock_text : ℕ → ℕ → List ℕ
clock_text mode ticks = if mode % 8 == 0 then [] else stamp_block ticks (mode % 8) (mode / 16)
