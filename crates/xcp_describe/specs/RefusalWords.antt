-- The words of a refusal, and the status that goes with it.
use Rattle.std.specs.Prelude.{ℕ, List, ◌++◌, codes, Option, Some, None}
use Rattle.std.specs.Fmt.{decimal}
use Rattle.xcp_program.specs.ExitStatus.{exit_status}
use Rattle.xcp_describe.specs.declared.refusal.Why.{Why}
use Rattle.xcp_describe.specs.declared.refusal.Why.TheVariants as why
use Rattle.xcp_describe.specs.declared.refusal.DescribeError.{DescribeError}
use Rattle.xcp_describe.specs.declared.refusal.DescribeError.TheVariants.{Host, Program, Parameter, Measurement}

-- what is wrong with an entry
abbrev pub why_words : Why → List ℕ
why_words why.Table = codes "it has to be a table"
why_words why.Name = codes "name has to be an identifier: letters, digits and underscores, no digit first, at most 117 characters"
why_words why.Taken = codes "its name is an earlier one's"
why_words why.Address = codes "address has to be an integer, 0 to 0xFFFFFFFF"
why_words why.Kind = codes "type has to be UBYTE, SBYTE, UWORD, SWORD, ULONG, SLONG, FLOAT32_IEEE or FLOAT64_IEEE"
why_words why.Count = codes "count has to be an integer, 1 to 65535"
why_words why.Shape = codes "columns and rows have to be integers, 1 to 65535, with at most 1048576 values in all, without count, and rows only beside columns"
why_words why.Number = codes "low, high, factor and offset have to be finite numbers, integers of 32 bits at most"
why_words why.Factor = codes "factor can't be 0"
why_words why.Limits = codes "low and high have to be values of its type, and low not above high"
why_words why.Unit = codes "unit has to be a text of at most 128 characters, none of them a control character or a separator of lines or paragraphs"
why_words why.About = codes "about has to be a text of at most 128 characters, none of them a control character or a separator of lines or paragraphs"
why_words why.NoSegment = codes "its bytes lie in no segment"
why_words why.Axis = codes "x_axis and y_axis have to name parameters without bits, of as many values as it has columns and rows, and an x_axis beside rows needs a y_axis"
why_words why.NoMemory = codes "its bytes lie neither in one segment nor in the signals"
why_words why.Event = codes "event has to be an integer, the number of an event channel from 0"
why_words why.Bits = codes "bits has to be an integer, not 0, within the bits of its type, which is one of integers"
why_words why.Values = codes "values has to be an array of at most 256 pairs, each an array of a number of its type, which is one of integers, and a text of 1 to 100 printable ASCII characters, no number twice, without factor and offset"
why_words why.Group = codes "group has to be an identifier: letters, digits and underscores, no digit first, at most 117 characters"

-- a refused entry: its table, its number in it, from 0, and what is wrong with it
abbrev pub entry_words : List ℕ → ℕ → Why → List ℕ
entry_words table number w = table ++ codes " " ++ decimal number ++ codes ": " ++ why_words w

-- a refusal in words. Those of the program's faults are theirs.
abbrev pub shown_refusal : DescribeError → Option (List ℕ)
shown_refusal Host = Some (codes "host has to be 1 to 255 printable ASCII characters without a blank")
shown_refusal (Program fault) = None
shown_refusal (Parameter number w) = Some (entry_words (codes "parameter") number w)
shown_refusal (Measurement number w) = Some (entry_words (codes "measurement") number w)

-- the exit status
abbrev pub status_of_description : DescribeError → ℕ
status_of_description Host = 1
status_of_description (Program fault) = exit_status fault
status_of_description (Parameter number w) = 1
status_of_description (Measurement number w) = 1
