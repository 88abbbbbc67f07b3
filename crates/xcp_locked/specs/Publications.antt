-- What readers are given of a run: the controller's images, each with its place.
use Rattle.std.specs.Prelude.{◌≡◌, ◌≢◌, ◌⊎◌, ℕ, suc, List, [], ◌∷◌, map}
use Rattle.xcp_memory.specs.EcuImage.{ecu_image}
use Rattle.xcp_slave.specs.declared.Exchange.{Exchange}
use Rattle.xcp_slave.specs.Step.{Answers}
use Rattle.xcp_slave.specs.SlaveValue.{SlaveValue}

-- the controller's image of a slave
abbrev pub image_of : SlaveValue → List ℕ
image_of v = ecu_image v.transfer.pages

-- A publication: an image, and its place: the number of exchanges after which the controller had it.
pub record Publication : Type 0 where
  pub place : ℕ
  pub image : List ℕ

abbrev pub publication : ℕ → List ℕ → Publication
publication place image = record { place = place; image = image }

-- the images of publications, and their places

abbrev pub images_of : List Publication → List (List ℕ)
images_of list = map (λ (p : Publication). p.image) list

-- From v the exchanges lead to these states, one by one.
abbrev pub LeadsThrough : SlaveValue → List Exchange → List SlaveValue → Type 0
LeadsThrough v [] states = states ≡ []
LeadsThrough v (x ∷ xs) states = (w : SlaveValue) × (later : List SlaveValue) × Answers v x.request x.answer w × LeadsThrough w xs later × (states ≡ w ∷ later)

-- The image before place `at` is this one, and these are the states from there on: the publications are the images that differ
-- from the one at the place before.
abbrev pub Changes : List ℕ → ℕ → List SlaveValue → List Publication → Type 0
Changes before at [] list = list ≡ []
Changes before at (v ∷ later) list =
    ((image_of v ≡ before) × Changes before (suc at) later list)
    ⊎ ((image_of v ≢ before) × (others : List Publication) × Changes (image_of v) (suc at) later others × (list ≡ publication at (image_of v) ∷ others))

-- What is published of the exchanges of a slave that was v: the image at place 0, and then the image at each place that differs
-- from the one at the place before.
pub record Published (v : SlaveValue) (xs : List Exchange) (list : List Publication) : Type 0 where
  pub states : List SlaveValue
  pub run : LeadsThrough v xs states
  pub changed : List Publication
  pub changes : Changes (image_of v) 1 states changed
  pub is : list ≡ publication 0 (image_of v) ∷ changed
