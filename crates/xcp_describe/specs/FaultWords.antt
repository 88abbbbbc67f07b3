-- The words of a check on the first fault of a layout.
use Rattle.std.specs.Prelude.{ℕ, List, [], ◌++◌, codes}
use Rattle.std.specs.Fmt.{decimal}
use Rattle.xcp_memory.specs.declared.Key.{Key}
use Rattle.xcp_memory.specs.declared.Key.TheVariants.{Id, MaxCto, MaxDto, ByteOrder, Checksum, A2l, UploadA2l, Overload, Clock, ClockSize, ClockUnit, ClockTicks, Class, Segment, Address, Data, Pages, Signals, SignalsAddress, SignalsLength, Event, Name, Cycle, Unit, Priority}
use Rattle.xcp_memory.specs.declared.Area.{Area}
use Rattle.xcp_memory.specs.declared.Area.TheVariants as area
use Rattle.xcp_config.specs.declared.config_error.ConfigError.{ConfigError}
use Rattle.xcp_config.specs.declared.config_error.ConfigError.TheVariants as error

-- what stands before a key: the table that it stands in, with its number
abbrev pub member_text : List ℕ → ℕ → List ℕ
member_text name n = name ++ codes " " ++ decimal n ++ codes ": "

abbrev pub place_of_key : Key → List ℕ
place_of_key (Address n) = member_text (codes "segment") n
place_of_key (Data n) = member_text (codes "segment") n
place_of_key (Pages n) = member_text (codes "segment") n
place_of_key SignalsAddress = codes "signals: "
place_of_key SignalsLength = codes "signals: "
place_of_key ClockSize = codes "clock: "
place_of_key ClockUnit = codes "clock: "
place_of_key ClockTicks = codes "clock: "
place_of_key (Name n) = member_text (codes "event") n
place_of_key (Cycle n) = member_text (codes "event") n
place_of_key (Unit n) = member_text (codes "event") n
place_of_key (Priority n) = member_text (codes "event") n
place_of_key _ = []

-- the key as the file has it
abbrev pub name_of_key : Key → List ℕ
name_of_key Id = codes "id"
name_of_key MaxCto = codes "max_cto"
name_of_key MaxDto = codes "max_dto"
name_of_key ByteOrder = codes "byte_order"
name_of_key Checksum = codes "checksum"
name_of_key A2l = codes "a2l"
name_of_key UploadA2l = codes "upload_a2l"
name_of_key Overload = codes "overload"
name_of_key Clock = codes "clock"
name_of_key ClockSize = codes "size"
name_of_key ClockUnit = codes "unit"
name_of_key ClockTicks = codes "ticks"
name_of_key Class = codes "class"
name_of_key Segment = codes "segment"
name_of_key (Address n) = codes "address"
name_of_key (Data n) = codes "data"
name_of_key (Pages n) = codes "pages"
name_of_key Signals = codes "signals"
name_of_key SignalsAddress = codes "address"
name_of_key SignalsLength = codes "length"
name_of_key Event = codes "event"
name_of_key (Name n) = codes "name"
name_of_key (Cycle n) = codes "cycle"
name_of_key (Unit n) = codes "unit"
name_of_key (Priority n) = codes "priority"

-- the type of its value
abbrev pub type_of_key : Key → List ℕ
type_of_key Id = codes "a text"
type_of_key ByteOrder = codes "a text"
type_of_key Checksum = codes "a text"
type_of_key A2l = codes "a text"
type_of_key UploadA2l = codes "true or false"
type_of_key Overload = codes "a text"
type_of_key Class = codes "a text"
type_of_key (Data n) = codes "a text"
type_of_key (Name n) = codes "a text"
type_of_key Segment = codes "an array of tables"
type_of_key Event = codes "an array of tables"
type_of_key Signals = codes "a table"
type_of_key Clock = codes "a table"
type_of_key _ = codes "an integer"

-- what it has to be besides
abbrev pub range_of_key : Key → List ℕ
range_of_key Id = codes " of 1 to 64 printable ASCII characters"
range_of_key MaxCto = codes ", 8 to 255"
range_of_key MaxDto = codes ", 8 to 255"
range_of_key ByteOrder = codes ": intel or motorola"
range_of_key Checksum = codes ": ADD_11, ADD_12, ADD_14, ADD_22, ADD_24 or ADD_44"
range_of_key A2l = codes " of 1 to 64 printable ASCII characters"
range_of_key UploadA2l = []
range_of_key Overload = codes ": event"
range_of_key Clock = []
range_of_key ClockSize = codes ": 1, 2 or 4"
range_of_key ClockUnit = codes ", 0 to 12"
range_of_key ClockTicks = codes ", 1 to 65535"
range_of_key Class = codes ": papers or large"
range_of_key Segment = codes ", one at least"
range_of_key (Address n) = codes ", 0 to 0xFFFFFFFE, and so has its last address"
range_of_key (Data n) = codes " of hex digits, two for a byte, and one byte at least"
range_of_key (Pages n) = codes ", 2 to 4"
range_of_key Signals = []
range_of_key SignalsAddress = codes ", 0 to 0xFFFFFFFE, and so has its last address"
range_of_key SignalsLength = codes ", 1 to 64, or to 16384 in the class large"
range_of_key Event = codes ", one at least"
range_of_key (Name n) = codes " of 1 to 32 printable ASCII characters"
range_of_key (Cycle n) = codes ", 0 to 255"
range_of_key (Unit n) = codes ", 0 to 255"
range_of_key (Priority n) = codes ", 0 to 255"

-- how much there is at most of what a key says, in either class
abbrev pub most_of_key : Key → List ℕ
most_of_key Segment = codes "4 segments, or 16 in the class large"
most_of_key Event = codes "8 event channels, or 64 in the class large"
most_of_key _ = codes "2040 bytes in all segments, or 1048576 in the class large"

abbrev pub area_text : Area → List ℕ
area_text (area.Segment n) = codes "segment " ++ decimal n
area_text area.Signals = codes "the signals"

-- the words of a fault
abbrev pub words_of : ConfigError → List ℕ
words_of error.Text = codes "it is no TOML document"
words_of (error.Missing k) = place_of_key k ++ (name_of_key k ++ codes " is missing")
words_of (error.Kind k) = place_of_key k ++ name_of_key k ++ codes " has to be " ++ type_of_key k
words_of (error.Range k) = place_of_key k ++ name_of_key k ++ codes " has to be " ++ type_of_key k ++ range_of_key k
words_of (error.Overlap a b) = area_text a ++ codes " and " ++ area_text b ++ codes " share an address"
words_of (error.TooMany k) = codes "there are more than " ++ most_of_key k
words_of error.Memory = codes "memory"
