-- The A2L file that tools get from a slave, where its configuration, whose segments may name files, asks for it.
use Rattle.std.specs.Prelude.{◌≡◌, ◌<◌, ◌⊎◌, ℕ, Bool, true, false, List, length, Option, Some, None}
use Rattle.xcp_memory.specs.Layout.{LayoutValue, A2lFileValue}
use Rattle.xcp_config.specs.ConfigText.{HasLayoutWith}
use Rattle.xcp_config.specs.TableLayout.{File}
use Rattle.xcp_describe.specs.declared.refusal.DescribeError.{DescribeError}
use Rattle.xcp_describe.specs.EntryFaults.{IsFirstRefusal}
use Rattle.xcp_describe.specs.Files.{HasA2lForm, TellsEpk, epk_of}

-- with these files the configuration describes a layout, and whether this asks that tools get the A2L file from the slave
pub record Uploads (files : List File) (config : List ℕ) (uploads : Bool) : Type 0 where
  pub layout : LayoutValue
  pub has : HasLayoutWith files config layout
  pub asks : layout.extras.uploads_a2l ≡ uploads

-- the text is an A2L file of the configuration: where tools get it from the slave, it tells the configuration's EPK
pub record IsFileOf (files : List File) (config text : List ℕ) : Type 0 where
  pub file : HasA2lForm text
  pub epk : Uploads files config true → TellsEpk (epk_of config) text

-- an A2L file that tools get from the slave: it has the EPK that its text tells, and no parameter and no measurement is refused
pub record IsA2l (files : List File) (config : List ℕ) (file : A2lFileValue) : Type 0 where
  pub asked : Uploads files config true
  pub epk : file.epk ≡ epk_of config
  pub text : HasA2lForm file.text
  pub told : TellsEpk file.epk file.text
  pub entries : IsFirstRefusal files config None

-- the A2L file that tools get from a slave of the configuration, and none where it doesn't ask for it
abbrev pub HasA2l : List File → List ℕ → Option A2lFileValue → Type 0
HasA2l files config None = Uploads files config false
HasA2l files config (Some file) = IsA2l files config file

-- it asks for a file, and there is none: a parameter or a measurement is refused, or the text is too long
pub record LacksA2l (files : List File) (config : List ℕ) : Type 0 where
  pub asked : Uploads files config true
  pub cause : ((e : DescribeError) × IsFirstRefusal files config (Some e)) ⊎ ((text : List ℕ) × IsFileOf files config text × (1048576 < length text))
