-- How a replay of a script ends, by a configuration text, its A2L file and the file of the stored pages, if there are such, and
-- the script.
use Rattle.std.specs.Prelude.{◌≡◌, ◌⊎◌, ℕ, List, [], Option, Result, Ok, Err}
use Rattle.xcp_memory.specs.Layout.{LayoutValue, A2lFileValue}
use Rattle.xcp_slave.specs.SlaveValue.{SlaveValue, opening}
use Rattle.xcp_slave.specs.Run.{Run, requests_of}
use Rattle.xcp_slave.specs.declared.Exchange.{Exchange}
use Rattle.xcp_script.specs.Replay.{EndsShort, OfLines, Replayed, TellsAnswers, asked}
use Rattle.xcp_script.specs.AnswerText.{answers_text}
use Rattle.xcp_script.specs.declared.ReplayError.{ReplayError}
use Rattle.xcp_script.specs.declared.ReplayError.TheVariants as errors
use Rattle.xcp_config.specs.declared.ConfigError.{ConfigError}
use Rattle.xcp_config.specs.declared.ConfigError.TheVariants.{Text}
use Rattle.xcp_config.specs.TableLayout.{File}
use Rattle.xcp_config.specs.FaultNumbers.{number_of}
use Rattle.xcp_config.specs.ConfigText.{HasFaultWith, IsNoDocument}
use Rattle.xcp_program.specs.Beginning.{BeginsWith, IsUnfitWith}
use Rattle.xcp_program.specs.declared.fault.Fault.{Fault}
use Rattle.xcp_program.specs.declared.fault.Fault.TheVariants as faults

-- A slave of this layout was run from its opening: its exchanges are of the requests of the script's lines, and the text of
-- its answers was written, as a replay that ends so has it. The script is the bytes that the reader had; old and new are
-- those that the writer held and holds; each where it is known.
pub record AnswersScript (layout : LayoutValue) (script old new : Option (List ℕ)) (ended : Result ℕ ReplayError) : Type 0 where
  pub exchanges : List Exchange
  pub slave : SlaveValue
  pub run : Run (opening layout) exchanges slave
  pub asked : OfLines script (λ lines. Replayed layout.max_cto lines ended (requests_of exchanges))
  pub written : TellsAnswers ended old new (answers_text exchanges)

-- the same, for the layout that the slave begins with
pub record ReplaysWith (files : List File) (config : List ℕ) (a2l : Option A2lFileValue) (flash : Option (List ℕ)) (script old new : Option (List ℕ)) (ended : Result ℕ ReplayError) : Type 0 where
  pub layout : LayoutValue
  pub begins : BeginsWith files config a2l flash layout
  pub answers : AnswersScript layout script old new ended

-- a run for which memory was short at a request of the script: the slave did not take it, or its answer has no text
pub record RunsShort (layout : LayoutValue) (script old new : Option (List ℕ)) : Type 0 where
  pub answers : AnswersScript layout script old new (Err errors.Memory)
  pub short : OfLines script (λ lines. EndsShort (asked layout.max_cto lines) answers.exchanges old new)

-- the same, for the layout that the slave begins with
pub record ReplaysShortWith (files : List File) (config : List ℕ) (a2l : Option A2lFileValue) (flash : Option (List ℕ)) (script old new : Option (List ℕ)) : Type 0 where
  pub layout : LayoutValue
  pub begins : BeginsWith files config a2l flash layout
  pub runs : RunsShort layout script old new

-- the configuration has a fault of this number: 1 where its text is no document, else that of the first check that fails
pub record IsFaultyWith (files : List File) (config : List ℕ) (n : ℕ) : Type 0 where
  pub fault : ConfigError
  pub number : n ≡ number_of fault
  pub found : ((fault ≡ Text) × IsNoDocument config) ⊎ HasFaultWith files config fault

-- it is told by this fault
abbrev pub IsFaultWith : List File → List ℕ → Fault → Type 0
IsFaultWith files config f = (n : ℕ) × (f ≡ faults.Configuration n) × IsFaultyWith files config n

-- the same of a configuration with no files
abbrev pub IsFault : List ℕ → Fault → Type 0
IsFault config f = IsFaultWith [] config f

-- What a replay did, by what it returned. Configuration(n): the configuration has the fault of that number, and nothing was
-- written. Flash(1): the file of the stored pages is unfit, and nothing was written. An allocation may fail before a slave stands: then
-- nothing was written either. A mismatch, a journal's fault or a refused clock is no end of a replay.
abbrev pub EndsByFiles : List File → List ℕ → Option A2lFileValue → Option (List ℕ) → Option (List ℕ) → Option (List ℕ) → Option (List ℕ) → Result ℕ Fault → Type 0
EndsByFiles files config a2l flash script old new (Ok n) = ReplaysWith files config a2l flash script old new (Ok n)
EndsByFiles files config a2l flash script old new (Err (faults.Configuration n)) = IsFaultyWith files config n × (new ≡ old)
EndsByFiles files config a2l flash script old new (Err (faults.Line k)) = ReplaysWith files config a2l flash script old new (Err (errors.Line k))
EndsByFiles files config a2l flash script old new (Err (faults.Stream n)) = ((n ≡ 1) × ReplaysWith files config a2l flash script old new (Err errors.Read)) ⊎ ((n ≡ 2) × ReplaysWith files config a2l flash script old new (Err errors.Write))
EndsByFiles files config a2l flash script old new (Err faults.Memory) = (new ≡ old) ⊎ ReplaysWith files config a2l flash script old new (Err errors.Memory)
EndsByFiles files config a2l flash script old new (Err (faults.MismatchedChapter number)) = ⊥
EndsByFiles files config a2l flash script old new (Err (faults.Mismatch caller at)) = ⊥
EndsByFiles files config a2l flash script old new (Err (faults.MismatchedCall at)) = ⊥
EndsByFiles files config a2l flash script old new (Err (faults.Journal n)) = ⊥
EndsByFiles files config a2l flash script old new (Err (faults.Flash n)) = (n ≡ 1) × IsUnfitWith files config flash × (new ≡ old)
EndsByFiles files config a2l flash script old new (Err faults.Clock) = ⊥

-- the same of a configuration with no files
abbrev pub Ends : List ℕ → Option A2lFileValue → Option (List ℕ) → Option (List ℕ) → Option (List ℕ) → Option (List ℕ) → Result ℕ Fault → Type 0
Ends config a2l flash script old new ended = EndsByFiles [] config a2l flash script old new ended

abbrev pub ReplaysShort : List ℕ → Option A2lFileValue → Option (List ℕ) → Option (List ℕ) → Option (List ℕ) → Option (List ℕ) → Type 0
ReplaysShort config a2l flash script old new = ReplaysShortWith [] config a2l flash script old new
