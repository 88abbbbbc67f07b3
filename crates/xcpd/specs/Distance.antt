-- How much of a journal's file is written that a thread writes.
use Rattle.std.specs.Prelude.{ℕ, ◌%◌, ◌-◌, List, slice_index, nat_lt, if◌then◌else◌}

-- where the number of calls with this chapter stands, of the numbers that are kept
abbrev pub chapter_place : ℕ → ℕ
chapter_place chapter = chapter % 1024

-- How many calls stand in the file where so many pieces are written: the first one is its head, and each further one a chapter.
abbrev pub calls_with : List ℕ → ℕ → ℕ
calls_with calls pieces = if nat_lt pieces 2 then 0 else slice_index calls (chapter_place (pieces - 2))
