-- The words on a fault, by its kind and number.
use Rattle.std.specs.Prelude.{ℕ, List, [], codes, ◌==◌, if◌then◌else◌}
use Rattle.std.specs.declared.io.ErrorKind.{ErrorKind}
use Rattle.std.specs.declared.io.ErrorKind.TheVariants.{AddrInUse, AddrNotAvailable, OutOfMemory, PermissionDenied}
use Rattle.xcp_program.specs.declared.fault.Fault.{Fault}
use Rattle.xcp_program.specs.declared.fault.Fault.TheVariants.{Configuration, Line, Stream, Memory, MismatchedChapter, Mismatch, MismatchedCall, Journal, Flash, Clock}
use Rattle.xcp_flash.specs.declared.fault.FlashError.{FlashError}
use Rattle.xcp_flash.specs.declared.fault.FlashError.TheVariants as flash

-- a layout file
unfoldable pub words_of_configuration : ℕ → List ℕ
words_of_configuration n =
    if n == 0 then codes "the file can't be opened or read, or has more than 65,536 bytes"
    else (if n == 1 then codes "it is no TOML document"
    else (if n == 2 then codes "a key is missing"
    else (if n == 3 then codes "a value has the wrong type"
    else (if n == 4 then codes "a value is out of its range"
    else (if n == 5 then codes "areas overlap"
    else (if n == 6 then codes "there are too many segments, bytes or event channels"
    else codes "the A2L file that it asks for can't be made"))))))

-- a stream
unfoldable pub words_of_stream : ℕ → List ℕ
words_of_stream n =
    if n == 0 then codes "listening or accepting failed"
    else (if n == 1 then codes "reading failed"
    else (if n == 2 then codes "writing failed"
    else (if n == 3 then codes "a frame is too long"
    else (if n == 4 then codes "a frame is cut short"
    else (if n == 6 then codes "the reads were spent"
    else (if n == 7 then codes "the journal is full"
    else codes "a stream failed"))))))

-- a journal's file
unfoldable pub words_of_journal : ℕ → List ℕ
words_of_journal n =
    if n == 0 then codes "the file can't be opened"
    else (if n == 1 then codes "the file can't be read; or, of a server, it can't be made, or is there already"
    else (if n == 2 then codes "not all calls could be written"
    else (if n == 3 then codes "the file ends inside a chapter or its end mark"
    else (if n == 4 then codes "a part isn't as it was written"
    else (if n == 5 then codes "it is of another layout, or of other stored pages"
    else codes "it is no such file, is of another version, or is too long")))))

-- a file of stored pages
unfoldable pub words_of_flash : ℕ → List ℕ
words_of_flash n =
    if n == 1 then codes "the file can't be read, is of another layout, cut short or altered"
    else (if n == 2 then codes "not all could be written, or no file can be made beside it"
    else codes "another program keeps it")

-- each fault; that of a clock has words in its own line
abbrev pub words_of : Fault → List ℕ
words_of (Configuration n) = words_of_configuration n
words_of (Line n) = codes "it is no packet in hex, and none of event, time, drain, store and hangup"
words_of (Stream n) = words_of_stream n
words_of Memory = codes "an allocation failed, or a thread couldn't be started"
words_of (MismatchedChapter number) = codes "it doesn't follow the one before"
words_of (Mismatch caller at) = codes "what it was answered differs from the journal"
words_of (MismatchedCall at) = codes "it has another answer than the slave's"
words_of (Journal n) = words_of_journal n
words_of (Flash n) = words_of_flash n
words_of Clock = []

-- a file of stored pages, by what is wrong in it
abbrev pub words_of_unfit : FlashError → List ℕ
words_of_unfit flash.Head = codes "it is no file of stored pages, or one of another version"
words_of_unfit flash.Layout = codes "it is of another layout"
words_of_unfit flash.Size = codes "it is cut short, or goes on behind its end"
words_of_unfit flash.Digest = codes "it was altered"

-- a port at which the system lets nobody listen, by the kind of its error
abbrev pub words_of_listening : ErrorKind → List ℕ
words_of_listening AddrInUse = codes "the port is taken"
words_of_listening AddrNotAvailable = codes "this machine doesn't have that address"
words_of_listening PermissionDenied = codes "the system doesn't allow it"
words_of_listening OutOfMemory = codes "memory is lacking"
words_of_listening _ = codes "the host is unknown"
