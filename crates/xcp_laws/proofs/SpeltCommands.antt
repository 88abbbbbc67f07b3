-- Which bytes spell a command.
use Rattle.std.proofs.Common.{◌≡◌, ◌≢◌, ℕ, ◌<◌, List, [], ◌∷◌, length, Result, Ok, Err, refl, arith}
use Rattle.arrayvec.specs.ArrayVec.{ArrayVec}
use Rattle.xcp_packet.proofs.DecodingLaws.{decodes_once}
use Rattle.xcp_packet.specs.ByteOrder.{byte_at, double_at, word_at}
use Rattle.xcp_packet.specs.CommandForms.{code, least}
use Rattle.xcp_packet.specs.CommandSpelling.{spells}
use Rattle.xcp_packet.specs.declared.Command.{Command}
use Rattle.xcp_packet.specs.declared.Command.TheVariants as commands
use Rattle.xcp_packet.specs.declared.Order.{Order}
use Rattle.xcp_packet.specs.declared.Order.TheVariants.{Intel, Motorola}
use Rattle.xcp_packet.specs.declared.Refuse.{Refuse}
use Rattle.xcp_packet.specs.declared.Refuse.TheVariants.{Short}
use Rattle.xcp_laws.specs.NumberBytes.{double_of, word_of}

word-there : (order : Order) (a b : ℕ) (more : List ℕ) → word_of order a b ≡ word_at order 0 (a ∷ b ∷ more)
word-there Intel a b more = omega arith
word-there Motorola a b more = omega arith

pub double-there : (order : Order) (a b c d : ℕ) (more : List ℕ) → double_of order a b c d ≡ double_at order 0 (a ∷ b ∷ c ∷ d ∷ more)
double-there Intel a b c d more = omega arith
double-there Motorola a b c d more = omega arith

-- fewer bytes than a command wants spell none that begins so
too-short : (order : Order) (d k : Command) (p : List ℕ) → p ≢ [] → byte_at 0 p ≡ code d → length p < least d → spells order k p → ⊥
too-short order d k p some first few h =
    let same : ◌≡◌ {A = Result Command Refuse} (Ok k) (Err Short) = decodes_once order p (Ok k) (Err Short) h (some, (d, first, few)) in cc

pub connect : (order : Order) (mode : ℕ) (more : List ℕ) → spells order (commands.Connect mode) (0xFF ∷ mode ∷ more)
connect order mode more = (record { first = refl; enough = omega arith }, (refl, tt))

pub disconnect : (order : Order) (more : List ℕ) → spells order commands.Disconnect (0xFE ∷ more)
disconnect order more = (record { first = refl; enough = omega arith }, tt)

pub get-status : (order : Order) (more : List ℕ) → spells order commands.GetStatus (0xFD ∷ more)
get-status order more = (record { first = refl; enough = omega arith }, tt)

pub synch : (order : Order) (more : List ℕ) → spells order commands.Synch (0xFC ∷ more)
synch order more = (record { first = refl; enough = omega arith }, tt)

pub get-comm-mode-info : (order : Order) (more : List ℕ) → spells order commands.GetCommModeInfo (0xFB ∷ more)
get-comm-mode-info order more = (record { first = refl; enough = omega arith }, tt)

pub get-id : (order : Order) (kind : ℕ) (more : List ℕ) → spells order (commands.GetId kind) (0xFA ∷ kind ∷ more)
get-id order kind more = (record { first = refl; enough = omega arith }, (refl, tt))

pub set-request : (order : Order) (mode a b : ℕ) (more : List ℕ) → spells order (commands.SetRequest mode (word_of order a b)) (0xF9 ∷ mode ∷ a ∷ b ∷ more)
set-request order mode a b more = (record { first = refl; enough = omega arith }, (refl, (word-there order a b more, tt)))

pub set-mta : (order : Order) (r t extension a b c d : ℕ) (more : List ℕ) → spells order (commands.SetMta extension (double_of order a b c d)) (0xF6 ∷ r ∷ t ∷ extension ∷ a ∷ b ∷ c ∷ d ∷ more)
set-mta order r t extension a b c d more = (record { first = refl; enough = omega arith }, (refl, (double-there order a b c d more, tt)))

pub upload : (order : Order) (n : ℕ) (more : List ℕ) → spells order (commands.Upload n) (0xF5 ∷ n ∷ more)
upload order n more = (record { first = refl; enough = omega arith }, (refl, tt))

pub short-upload : (order : Order) (n r extension a b c d : ℕ) (more : List ℕ) → spells order (commands.ShortUpload n extension (double_of order a b c d)) (0xF4 ∷ n ∷ r ∷ extension ∷ a ∷ b ∷ c ∷ d ∷ more)
short-upload order n r extension a b c d more = (record { first = refl; enough = omega arith }, (refl, (refl, (double-there order a b c d more, tt))))

pub build-checksum : (order : Order) (r t u a b c d : ℕ) (more : List ℕ) → spells order (commands.BuildChecksum (double_of order a b c d)) (0xF3 ∷ r ∷ t ∷ u ∷ a ∷ b ∷ c ∷ d ∷ more)
build-checksum order r t u a b c d more = (record { first = refl; enough = omega arith }, (double-there order a b c d more, tt))

pub get-version : (order : Order) (items : ArrayVec ℕ) → spells order (commands.GetVersion items) (0xC0 ∷ items.items)
get-version order items = (record { first = refl; enough = omega arith }, (refl, tt))

pub download : (order : Order) (n : ℕ) (items : ArrayVec ℕ) → spells order (commands.Download n items) (0xF0 ∷ n ∷ items.items)
download order n items = (record { first = refl; enough = omega arith }, (refl, (refl, tt)))

pub download-next : (order : Order) (remaining : ℕ) (items : ArrayVec ℕ) → spells order (commands.DownloadNext remaining items) (0xEF ∷ remaining ∷ items.items)
download-next order remaining items = (record { first = refl; enough = omega arith }, (refl, (refl, tt)))

pub download-max : (order : Order) (items : ArrayVec ℕ) → spells order (commands.DownloadMax items) (0xEE ∷ items.items)
download-max order items = (record { first = refl; enough = omega arith }, (refl, tt))

pub short-download : (order : Order) (n r extension a b c d : ℕ) (items : ArrayVec ℕ) → spells order (commands.ShortDownload n extension (double_of order a b c d) items) (0xED ∷ n ∷ r ∷ extension ∷ a ∷ b ∷ c ∷ d ∷ items.items)
short-download order n r extension a b c d items = (record { first = refl; enough = omega arith }, (refl, (refl, (double-there order a b c d items.items, (refl, tt)))))

pub modify-bits : (order : Order) (s a b c d : ℕ) (more : List ℕ) → spells order (commands.ModifyBits s (word_of order a b) (word_of order c d)) (0xEC ∷ s ∷ a ∷ b ∷ c ∷ d ∷ more)
modify-bits order s a b c d more = (record { first = refl; enough = omega arith }, (refl, (word-there order a b (c ∷ d ∷ more), (word-there order c d more, tt))))

pub set-cal-page : (order : Order) (mode segment page : ℕ) (more : List ℕ) → spells order (commands.SetCalPage mode segment page) (0xEB ∷ mode ∷ segment ∷ page ∷ more)
set-cal-page order mode segment page more = (record { first = refl; enough = omega arith }, (refl, (refl, (refl, tt))))

pub get-cal-page : (order : Order) (mode segment : ℕ) (more : List ℕ) → spells order (commands.GetCalPage mode segment) (0xEA ∷ mode ∷ segment ∷ more)
get-cal-page order mode segment more = (record { first = refl; enough = omega arith }, (refl, (refl, tt)))

pub get-pag-processor-info : (order : Order) (more : List ℕ) → spells order commands.GetPagProcessorInfo (0xE9 ∷ more)
get-pag-processor-info order more = (record { first = refl; enough = omega arith }, tt)

pub get-segment-info : (order : Order) (mode segment info mapping : ℕ) (more : List ℕ) → spells order (commands.GetSegmentInfo mode segment info mapping) (0xE8 ∷ mode ∷ segment ∷ info ∷ mapping ∷ more)
get-segment-info order mode segment info mapping more = (record { first = refl; enough = omega arith }, (refl, (refl, (refl, (refl, tt)))))

pub get-page-info : (order : Order) (r segment page : ℕ) (more : List ℕ) → spells order (commands.GetPageInfo segment page) (0xE7 ∷ r ∷ segment ∷ page ∷ more)
get-page-info order r segment page more = (record { first = refl; enough = omega arith }, (refl, (refl, tt)))

pub set-segment-mode : (order : Order) (mode segment : ℕ) (more : List ℕ) → spells order (commands.SetSegmentMode mode segment) (0xE6 ∷ mode ∷ segment ∷ more)
set-segment-mode order mode segment more = (record { first = refl; enough = omega arith }, (refl, (refl, tt)))

pub get-segment-mode : (order : Order) (r segment : ℕ) (more : List ℕ) → spells order (commands.GetSegmentMode segment) (0xE5 ∷ r ∷ segment ∷ more)
get-segment-mode order r segment more = (record { first = refl; enough = omega arith }, (refl, tt))

pub copy-cal-page : (order : Order) (source source_page target target_page : ℕ) (more : List ℕ) → spells order (commands.CopyCalPage source source_page target target_page) (0xE4 ∷ source ∷ source_page ∷ target ∷ target_page ∷ more)
copy-cal-page order source source_page target target_page more = (record { first = refl; enough = omega arith }, (refl, (refl, (refl, (refl, tt)))))

pub clear-daq-list : (order : Order) (r a b : ℕ) (more : List ℕ) → spells order (commands.ClearDaqList (word_of order a b)) (0xE3 ∷ r ∷ a ∷ b ∷ more)
clear-daq-list order r a b more = (record { first = refl; enough = omega arith }, (word-there order a b more, tt))

pub set-daq-ptr : (order : Order) (r a b odt entry : ℕ) (more : List ℕ) → spells order (commands.SetDaqPtr (word_of order a b) odt entry) (0xE2 ∷ r ∷ a ∷ b ∷ odt ∷ entry ∷ more)
set-daq-ptr order r a b odt entry more = (record { first = refl; enough = omega arith }, (word-there order a b (odt ∷ entry ∷ more), (refl, (refl, tt))))

pub write-daq : (order : Order) (offset size extension a b c d : ℕ) (more : List ℕ) → spells order (commands.WriteDaq offset size extension (double_of order a b c d)) (0xE1 ∷ offset ∷ size ∷ extension ∷ a ∷ b ∷ c ∷ d ∷ more)
write-daq order offset size extension a b c d more = (record { first = refl; enough = omega arith }, (refl, (refl, (refl, (double-there order a b c d more, tt)))))

pub set-daq-list-mode : (order : Order) (mode a b c d prescaler priority : ℕ) (more : List ℕ) → spells order (commands.SetDaqListMode mode (word_of order a b) (word_of order c d) prescaler priority) (0xE0 ∷ mode ∷ a ∷ b ∷ c ∷ d ∷ prescaler ∷ priority ∷ more)
set-daq-list-mode order mode a b c d prescaler priority more = (record { first = refl; enough = omega arith }, (refl, (word-there order a b (c ∷ d ∷ prescaler ∷ priority ∷ more), (word-there order c d (prescaler ∷ priority ∷ more), (refl, (refl, tt))))))

pub get-daq-list-mode : (order : Order) (r a b : ℕ) (more : List ℕ) → spells order (commands.GetDaqListMode (word_of order a b)) (0xDF ∷ r ∷ a ∷ b ∷ more)
get-daq-list-mode order r a b more = (record { first = refl; enough = omega arith }, (word-there order a b more, tt))

pub start-stop-daq-list : (order : Order) (mode a b : ℕ) (more : List ℕ) → spells order (commands.StartStopDaqList mode (word_of order a b)) (0xDE ∷ mode ∷ a ∷ b ∷ more)
start-stop-daq-list order mode a b more = (record { first = refl; enough = omega arith }, (refl, (word-there order a b more, tt)))

pub start-stop-synch : (order : Order) (mode : ℕ) (more : List ℕ) → spells order (commands.StartStopSynch mode) (0xDD ∷ mode ∷ more)
start-stop-synch order mode more = (record { first = refl; enough = omega arith }, (refl, tt))

pub get-daq-clock : (order : Order) (more : List ℕ) → spells order commands.GetDaqClock (0xDC ∷ more)
get-daq-clock order more = (record { first = refl; enough = omega arith }, tt)

pub read-daq : (order : Order) (more : List ℕ) → spells order commands.ReadDaq (0xDB ∷ more)
read-daq order more = (record { first = refl; enough = omega arith }, tt)

pub get-daq-processor-info : (order : Order) (more : List ℕ) → spells order commands.GetDaqProcessorInfo (0xDA ∷ more)
get-daq-processor-info order more = (record { first = refl; enough = omega arith }, tt)

pub get-daq-resolution-info : (order : Order) (more : List ℕ) → spells order commands.GetDaqResolutionInfo (0xD9 ∷ more)
get-daq-resolution-info order more = (record { first = refl; enough = omega arith }, tt)

pub get-daq-event-info : (order : Order) (r a b : ℕ) (more : List ℕ) → spells order (commands.GetDaqEventInfo (word_of order a b)) (0xD7 ∷ r ∷ a ∷ b ∷ more)
get-daq-event-info order r a b more = (record { first = refl; enough = omega arith }, (word-there order a b more, tt))

pub free-daq : (order : Order) (more : List ℕ) → spells order commands.FreeDaq (0xD6 ∷ more)
free-daq order more = (record { first = refl; enough = omega arith }, tt)

pub alloc-daq : (order : Order) (r a b : ℕ) (more : List ℕ) → spells order (commands.AllocDaq (word_of order a b)) (0xD5 ∷ r ∷ a ∷ b ∷ more)
alloc-daq order r a b more = (record { first = refl; enough = omega arith }, (word-there order a b more, tt))

pub alloc-odt : (order : Order) (r a b count : ℕ) (more : List ℕ) → spells order (commands.AllocOdt (word_of order a b) count) (0xD4 ∷ r ∷ a ∷ b ∷ count ∷ more)
alloc-odt order r a b count more = (record { first = refl; enough = omega arith }, (word-there order a b (count ∷ more), (refl, tt)))

pub alloc-odt-entry : (order : Order) (r a b odt count : ℕ) (more : List ℕ) → spells order (commands.AllocOdtEntry (word_of order a b) odt count) (0xD3 ∷ r ∷ a ∷ b ∷ odt ∷ count ∷ more)
alloc-odt-entry order r a b odt count more = (record { first = refl; enough = omega arith }, (word-there order a b (odt ∷ count ∷ more), (refl, (refl, tt))))

pub write-daq-multiple : (order : Order) (items : ArrayVec ℕ) → spells order (commands.WriteDaqMultiple items) (0xC7 ∷ items.items)
write-daq-multiple order items = (record { first = refl; enough = omega arith }, (refl, tt))

pub connect-short : (order : Order) (k : Command) → spells order k (0xFF ∷ []) → ⊥
connect-short order k h = too-short order (commands.Connect 0) k _ (λ e. cc) refl (omega arith) h

pub get-id-short : (order : Order) (k : Command) → spells order k (0xFA ∷ []) → ⊥
get-id-short order k h = too-short order (commands.GetId 0) k _ (λ e. cc) refl (omega arith) h

pub set-request-short : (order : Order) (k : Command) (mode a : ℕ) → spells order k (0xF9 ∷ mode ∷ a ∷ []) → ⊥
set-request-short order k mode a h = too-short order (commands.SetRequest 0 0) k _ (λ e. cc) refl (omega arith) h

pub set-mta-short : (order : Order) (k : Command) (r t extension a b c : ℕ) → spells order k (0xF6 ∷ r ∷ t ∷ extension ∷ a ∷ b ∷ c ∷ []) → ⊥
set-mta-short order k r t extension a b c h = too-short order (commands.SetMta 0 0) k _ (λ e. cc) refl (omega arith) h

pub upload-short : (order : Order) (k : Command) → spells order k (0xF5 ∷ []) → ⊥
upload-short order k h = too-short order (commands.Upload 0) k _ (λ e. cc) refl (omega arith) h

pub short-upload-short : (order : Order) (k : Command) (n r extension a b c : ℕ) → spells order k (0xF4 ∷ n ∷ r ∷ extension ∷ a ∷ b ∷ c ∷ []) → ⊥
short-upload-short order k n r extension a b c h = too-short order (commands.ShortUpload 0 0 0) k _ (λ e. cc) refl (omega arith) h

pub build-checksum-short : (order : Order) (k : Command) (r t u a b c : ℕ) → spells order k (0xF3 ∷ r ∷ t ∷ u ∷ a ∷ b ∷ c ∷ []) → ⊥
build-checksum-short order k r t u a b c h = too-short order (commands.BuildChecksum 0) k _ (λ e. cc) refl (omega arith) h

pub download-short : (order : Order) (k : Command) → spells order k (0xF0 ∷ []) → ⊥
download-short order k h = too-short order (commands.Download 0 (record { items = [] })) k _ (λ e. cc) refl (omega arith) h

pub download-next-short : (order : Order) (k : Command) → spells order k (0xEF ∷ []) → ⊥
download-next-short order k h = too-short order (commands.DownloadNext 0 (record { items = [] })) k _ (λ e. cc) refl (omega arith) h

pub short-download-short : (order : Order) (k : Command) (n r extension a b c : ℕ) → spells order k (0xED ∷ n ∷ r ∷ extension ∷ a ∷ b ∷ c ∷ []) → ⊥
short-download-short order k n r extension a b c h = too-short order (commands.ShortDownload 0 0 0 (record { items = [] })) k _ (λ e. cc) refl (omega arith) h

pub modify-bits-short : (order : Order) (k : Command) (s a b c : ℕ) → spells order k (0xEC ∷ s ∷ a ∷ b ∷ c ∷ []) → ⊥
modify-bits-short order k s a b c h = too-short order (commands.ModifyBits 0 0 0) k _ (λ e. cc) refl (omega arith) h

pub set-cal-page-short : (order : Order) (k : Command) (mode segment : ℕ) → spells order k (0xEB ∷ mode ∷ segment ∷ []) → ⊥
set-cal-page-short order k mode segment h = too-short order (commands.SetCalPage 0 0 0) k _ (λ e. cc) refl (omega arith) h

pub get-cal-page-short : (order : Order) (k : Command) (mode : ℕ) → spells order k (0xEA ∷ mode ∷ []) → ⊥
get-cal-page-short order k mode h = too-short order (commands.GetCalPage 0 0) k _ (λ e. cc) refl (omega arith) h

pub get-segment-info-short : (order : Order) (k : Command) (mode segment info : ℕ) → spells order k (0xE8 ∷ mode ∷ segment ∷ info ∷ []) → ⊥
get-segment-info-short order k mode segment info h = too-short order (commands.GetSegmentInfo 0 0 0 0) k _ (λ e. cc) refl (omega arith) h

pub get-page-info-short : (order : Order) (k : Command) (r segment : ℕ) → spells order k (0xE7 ∷ r ∷ segment ∷ []) → ⊥
get-page-info-short order k r segment h = too-short order (commands.GetPageInfo 0 0) k _ (λ e. cc) refl (omega arith) h

pub set-segment-mode-short : (order : Order) (k : Command) (mode : ℕ) → spells order k (0xE6 ∷ mode ∷ []) → ⊥
set-segment-mode-short order k mode h = too-short order (commands.SetSegmentMode 0 0) k _ (λ e. cc) refl (omega arith) h

pub get-segment-mode-short : (order : Order) (k : Command) (r : ℕ) → spells order k (0xE5 ∷ r ∷ []) → ⊥
get-segment-mode-short order k r h = too-short order (commands.GetSegmentMode 0) k _ (λ e. cc) refl (omega arith) h

pub copy-cal-page-short : (order : Order) (k : Command) (source source_page target : ℕ) → spells order k (0xE4 ∷ source ∷ source_page ∷ target ∷ []) → ⊥
copy-cal-page-short order k source source_page target h = too-short order (commands.CopyCalPage 0 0 0 0) k _ (λ e. cc) refl (omega arith) h

pub clear-daq-list-short : (order : Order) (k : Command) (r a : ℕ) → spells order k (0xE3 ∷ r ∷ a ∷ []) → ⊥
clear-daq-list-short order k r a h = too-short order (commands.ClearDaqList 0) k _ (λ e. cc) refl (omega arith) h

pub set-daq-ptr-short : (order : Order) (k : Command) (r a b odt : ℕ) → spells order k (0xE2 ∷ r ∷ a ∷ b ∷ odt ∷ []) → ⊥
set-daq-ptr-short order k r a b odt h = too-short order (commands.SetDaqPtr 0 0 0) k _ (λ e. cc) refl (omega arith) h

pub write-daq-short : (order : Order) (k : Command) (offset size extension a b c : ℕ) → spells order k (0xE1 ∷ offset ∷ size ∷ extension ∷ a ∷ b ∷ c ∷ []) → ⊥
write-daq-short order k offset size extension a b c h = too-short order (commands.WriteDaq 0 0 0 0) k _ (λ e. cc) refl (omega arith) h

pub set-daq-list-mode-short : (order : Order) (k : Command) (mode a b c d prescaler : ℕ) → spells order k (0xE0 ∷ mode ∷ a ∷ b ∷ c ∷ d ∷ prescaler ∷ []) → ⊥
set-daq-list-mode-short order k mode a b c d prescaler h = too-short order (commands.SetDaqListMode 0 0 0 0 0) k _ (λ e. cc) refl (omega arith) h

pub get-daq-list-mode-short : (order : Order) (k : Command) (r a : ℕ) → spells order k (0xDF ∷ r ∷ a ∷ []) → ⊥
get-daq-list-mode-short order k r a h = too-short order (commands.GetDaqListMode 0) k _ (λ e. cc) refl (omega arith) h

pub start-stop-daq-list-short : (order : Order) (k : Command) (mode a : ℕ) → spells order k (0xDE ∷ mode ∷ a ∷ []) → ⊥
start-stop-daq-list-short order k mode a h = too-short order (commands.StartStopDaqList 0 0) k _ (λ e. cc) refl (omega arith) h

pub start-stop-synch-short : (order : Order) (k : Command) → spells order k (0xDD ∷ []) → ⊥
start-stop-synch-short order k h = too-short order (commands.StartStopSynch 0) k _ (λ e. cc) refl (omega arith) h

pub get-daq-event-info-short : (order : Order) (k : Command) (r a : ℕ) → spells order k (0xD7 ∷ r ∷ a ∷ []) → ⊥
get-daq-event-info-short order k r a h = too-short order (commands.GetDaqEventInfo 0) k _ (λ e. cc) refl (omega arith) h

pub alloc-daq-short : (order : Order) (k : Command) (r a : ℕ) → spells order k (0xD5 ∷ r ∷ a ∷ []) → ⊥
alloc-daq-short order k r a h = too-short order (commands.AllocDaq 0) k _ (λ e. cc) refl (omega arith) h

pub alloc-odt-short : (order : Order) (k : Command) (r a b : ℕ) → spells order k (0xD4 ∷ r ∷ a ∷ b ∷ []) → ⊥
alloc-odt-short order k r a b h = too-short order (commands.AllocOdt 0 0) k _ (λ e. cc) refl (omega arith) h

pub alloc-odt-entry-short : (order : Order) (k : Command) (r a b odt : ℕ) → spells order k (0xD3 ∷ r ∷ a ∷ b ∷ odt ∷ []) → ⊥
alloc-odt-entry-short order k r a b odt h = too-short order (commands.AllocOdtEntry 0 0 0) k _ (λ e. cc) refl (omega arith) h
