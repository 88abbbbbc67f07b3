-- What holds of clap's walk over words in which it finds no fault: what holds of each row that a use of an argument leaves holds of
-- each row that the walk leaves, and it enters no `help`.
use Rattle.std.proofs.Common.{◌≡◌, ◌&&◌, ℕ, Bool, codes, true, false, not, zero, suc, refl, true≢false, List, [], ◌∷◌, length, drop, fold, Option, Some, None, IfSome, is_some, if◌then◌else◌, find, slice_get, chars, encode_utf8, bytes_eq}
use Rattle.std.specs.Option.{option_map_or}
use Rattle.clap.specs.Lexer.{long_of, short_of}
use Rattle.clap.specs.Walk.{Held, Names, Outcome, Row, Rule, Step, Text, Waiting, Walk, after_flag, after_step, arg_by_id, arg_by_index, arg_by_long, arg_by_short, attached_value, bundle, bundle_met, bundle_step, done, flag_met, idle, is_pending, long_met, long_or_other, next, option, option_met, option_word, plain, plain_word, positional, pushed, reacted, refused, settled, settled_rows, short_met, short_or_plain, subcommand, subcommand_met, subcommand_or_other, takes_several, takes_values, to_positional, trailing, used_by_id, value, waits, walked, walked_from, word_met}
use Rattle.clap.specs.Simple.{Shape}
use Rattle.clap.specs.Kinds.{Kinds, or_else}
use Rattle.clap.specs.Faults.{bundle_fault, bundle_step_fault, flag_word_fault, flags_fault, long_fault, option_fault, other_fault, positional_fault, react_fault, settle_fault, short_fault, step_fault, stray_fault, turn_fault, use_fault, walk_fault, word_fault}
use Rattle.clap.specs.declared.error.kind.ErrorKind.TheVariants as kind
use Rattle.xcp_program.proofs.ClapRowLemmas.{Keeps, no_kinds, parts}
use Rattle.std.specs.List.{AllByRecursion}

-- ---- rows

module _ (P : Row → Type 0) (c : List Rule) (again : Bool) (good : (p : Rule → Bool) → IfSome (find p c) (Keeps P)) where
  by_id : (o : Option Rule) → IfSome o (Keeps P) → (values : List Text) (rows : List Row) → option_map_or (λ a. use_fault again a values rows) o [] ≡ [] → AllByRecursion P rows → AllByRecursion P (used_by_id o values rows)
  by_id None k values rows e v = v
  by_id (Some a) k values rows e v = k again values rows e v

  settle_rows : (p : Option (Text × List Text)) (rows : List Row) → option_map_or (λ q. option_map_or (λ a. use_fault again a q.1 rows) (arg_by_id c q.0) []) p [] ≡ [] → AllByRecursion P rows → AllByRecursion P (settled_rows c p rows)
  settle_rows None rows e v = v
  settle_rows (Some p) rows e v = by_id (arg_by_id c p.0) (good (λ a. bytes_eq a.id p.0)) p.1 rows e v

  pub settles : (h : Held) → settle_fault c again h ≡ [] → AllByRecursion P h.rows → AllByRecursion P (settled c h).rows
  settles h e v = settle_rows h.pending h.rows e v

  reacts : (a : Rule) → Keeps P a → (values : List Text) (h : Held) → react_fault c again a values h ≡ [] → AllByRecursion P h.rows → AllByRecursion P (reacted c a values h).rows
  reacts a k values h e v =
      let p = parts (settle_fault c again h) (use_fault again a values (settled c h).rows) e in
      k again values (settled c h).rows p.1 (settles h p.0 v)

  options : (a : Rule) → Keeps P a → (o : Option Text) (h : Held) → option_fault c again a o h ≡ [] → AllByRecursion P h.rows → AllByRecursion P (option_met c a o h).0.rows
  options a k (Some t) h e v = reacts a k (t ∷ []) h e v
  options a k None h e v = settles h e v

  longs : (o : Option Rule) → IfSome o (Keeps P) → (t : Option Text) (h : Held) → long_fault c again o t h ≡ [] → AllByRecursion P h.rows → AllByRecursion P (long_met c o t h).0.rows
  longs None k t h e v = v
  longs (Some a) k t h e v = go (takes_values a) t e
    where
      go : (b : Bool) (t : Option Text) → (if b then option_fault c again a t h else (if is_some t then kind.TooManyValues ∷ [] else react_fault c again a [] h)) ≡ [] → AllByRecursion P (if b then option_met c a t h else flag_met c a t h).0.rows
      go true t e = options a k t h e v
      go false None e = reacts a k [] h e v
      go false (Some x) e = v

  shorts : (o : Option Rule) → IfSome o (Keeps P) → (rest : Text) (h : Held) (faults : Held → Kinds) (later : Held → Held × Outcome) → ((g : Held) → faults g ≡ [] → AllByRecursion P g.rows → AllByRecursion P (later g).0.rows)
      → short_fault c again o rest h faults ≡ [] → AllByRecursion P h.rows → AllByRecursion P (short_met c o rest h later).0.rows
  shorts None k rest h faults later n e v = v
  shorts (Some a) k rest h faults later n e v = go (takes_values a) e
    where
      go : (b : Bool) → (if b then option_fault c again a (attached_value rest) h else or_else (react_fault c again a [] h) (faults (reacted c a [] h))) ≡ []
          → AllByRecursion P (if b then option_met c a (attached_value rest) h else later (reacted c a [] h)).0.rows
      go true e = options a k (attached_value rest) h e v
      go false e =
          let p = parts (react_fault c again a [] h) (faults (reacted c a [] h)) e in
          n (reacted c a [] h) p.1 (reacts a k [] h p.0 v)

  flag_step : (k : ℕ) (t : Text) (so_far : Outcome) (h : Held)
      → ((t : Text) (skip : ℕ) (so_far : Outcome) (g : Held) → flags_fault c again k t skip g ≡ [] → AllByRecursion P g.rows → AllByRecursion P (bundle_met c k t skip so_far g).0.rows)
      → (o : Option ℕ) (skip : ℕ) → bundle_step_fault c again o t skip h (flags_fault c again k) ≡ [] → AllByRecursion P h.rows → AllByRecursion P (bundle_step c o t skip so_far h (bundle_met c k)).0.rows
  flag_step k t so_far h later None skip e v = v
  flag_step k t so_far h later (Some x) zero e v =
      let rest = drop (length (encode_utf8 x)) t in
      shorts (arg_by_short c x) (good _) rest h (flags_fault c again k rest 0) (bundle_met c k rest 0 done) (later rest 0 done) e v
  flag_step k t so_far h later (Some x) (suc skip) e v = later (drop (length (encode_utf8 x)) t) skip so_far h e v

  flags : (k : ℕ) (t : Text) (skip : ℕ) (so_far : Outcome) (h : Held) → flags_fault c again k t skip h ≡ [] → AllByRecursion P h.rows → AllByRecursion P (bundle_met c k t skip so_far h).0.rows
  unfolding flags_fault bundle_met
  flags zero t skip so_far h e v = v
  flags (suc k) t skip so_far h e v = flag_step k t so_far h (flags k) (slice_get (chars t) 0) skip e v

  option_rows : (o : Option Rule) (id word : Text) (h : Held) → AllByRecursion P h.rows → AllByRecursion P (option_word o id word h).0.rows
  option_rows None id word h v = v
  option_rows (Some a) id word h v = v

  plain_rows : (w : Waiting) (word : Text) (h : Held) → AllByRecursion P h.rows → AllByRecursion P (plain_word c w word h).0.rows
  plain_rows idle word h v = v
  plain_rows (option id) word h v = option_rows (arg_by_id c id) id word h v
  plain_rows positional word h v = v

  flag_rows : (w : Waiting) (word : Text) (h : Held) (o : Outcome) → AllByRecursion P h.rows → AllByRecursion P (after_flag c w word h o).0.rows
  flag_rows w word h done v = v
  flag_rows w word h (waits id) v = v
  flag_rows w word h plain v = plain_rows w word h v
  flag_rows w word h refused v = plain_rows w word h v

  bundles : (o : Option Text) (w : Waiting) (word : Text) (h : Held) → option_map_or (λ t. bundle_fault c again t h) o [] ≡ [] → AllByRecursion P h.rows → AllByRecursion P (short_or_plain c w word o h).0.rows
  bundles None w word h e v = plain_rows w word h v
  bundles (Some t) w word h e v = flag_rows w word (bundle c t h).0 (bundle c t h).1 (flags (length t) t h.skip plain (record h { skip = 0 }) e v)

  pub flag_words : (o : Option (Text × Option Text)) (w : Waiting) (word : Text) (h : Held) → flag_word_fault c again o word h ≡ [] → AllByRecursion P h.rows → AllByRecursion P (long_or_other c w word o h).0.rows
  flag_words (Some p) w word h e v = flag_rows w word (long_met c (arg_by_long c p.0) p.1 h).0 (long_met c (arg_by_long c p.0) p.1 h).1 (longs (arg_by_long c p.0) (good _) p.1 h e v)
  flag_words None w word h e v = bundles (short_of word) w word h e v

module _ (P : Row → Type 0) (s : Shape) (names : Names) (good : (p : Rule → Bool) → IfSome (find p s.rules) (Keeps P)) where
  others_kept : (o : Option Text) (w : Waiting) (position : ℕ) (word : Text) (h : Held) → other_fault s o word h ≡ [] → AllByRecursion P h.rows → AllByRecursion P (subcommand_or_other s.rules o w position word h).0.rows
  others_kept (Some name) w position word h e v = v
  others_kept None w position word h e v = go (bytes_eq word (45 ∷ 45 ∷ [])) e
    where
      go : (b : Bool) → (if b then [] else flag_word_fault s.rules s.args_override_self (long_of word) word h) ≡ []
          → AllByRecursion P (if b then (h, trailing position) else long_or_other s.rules w word (long_of word) h).0.rows
      go true e = v
      go false e = flag_words P s.rules s.args_override_self good (long_of word) w word h e v

  word_kept : (b : Bool) (w : Waiting) (position : ℕ) (word : Text) (h : Held) → word_fault s names b w word h ≡ [] → AllByRecursion P h.rows → AllByRecursion P (word_met s.rules names b w position word h).0.rows
  word_kept true w position word h e v = v
  word_kept false w position word h e v = others_kept (subcommand_met names w word) w position word h e v

  positional_kept : (o : Option Rule) (word : Text) (w : Walk) (h : Held) → option_map_or (λ a. positional_fault s.rules s.args_override_self a h) o (stray_fault s) ≡ [] → AllByRecursion P h.rows
      → AllByRecursion P (to_positional s.rules o word w h).held.rows
  positional_kept None word w h e v = v
  positional_kept (Some a) word w h e v = go (is_pending a h.pending && takes_several a) e
    where
      go : (b : Bool) → (if b then [] else settle_fault s.rules s.args_override_self h) ≡ [] → AllByRecursion P (pushed a.id word (if b then h else settled s.rules h)).rows
      go true e = v
      go false e = settles P s.rules s.args_override_self good h e v

  step_kept : (word : Text) (w : Walk) (h : Held) (t : Step) → step_fault s w.position h t ≡ [] → AllByRecursion P h.rows → AllByRecursion P (after_step s.rules word w h t).held.rows
  step_kept word w h (next waiting) e v = v
  step_kept word w h (trailing position) e v = v
  step_kept word w h (subcommand name) e v = v
  step_kept word w h value e v = positional_kept (arg_by_index s.rules w.position) word w h e v

  turn_kept : (w : Walk) (word : Text) → turn_fault s names w word ≡ [] → AllByRecursion P w.held.rows → AllByRecursion P (walked s.rules names w word).held.rows
  unfolding walked
  turn_kept w word e v = go w.stopped e
    where
      go : (o : Option (Text × List Text)) → (if is_some o then [] else or_else (word_fault s names w.is_trailing w.waiting word w.held) (step_fault s w.position (word_met s.rules names w.is_trailing w.waiting w.position word w.held).0 (word_met s.rules names w.is_trailing w.waiting w.position word w.held).1)) ≡ []
          → AllByRecursion P (walked_from s.rules names o w word).held.rows
      go (Some p) e = v
      go None e =
          let m = word_met s.rules names w.is_trailing w.waiting w.position word w.held in
          let p = parts (word_fault s names w.is_trailing w.waiting word w.held) (step_fault s w.position m.0 m.1) e in
          step_kept word w m.0 m.1 p.1 (word_kept w.is_trailing w.waiting w.position word w.held p.0 v)

  -- a walk without a fault leaves rows with values
  pub walk_kept : (words : List Text) (w : Walk) → walk_fault s names w words ≡ [] → AllByRecursion P w.held.rows → AllByRecursion P (fold (walked s.rules names) w words).held.rows
  unfolding walk_fault
  walk_kept [] w e v = v
  walk_kept (word ∷ words) w e v =
      let p = parts (turn_fault s names w word) (walk_fault s names (walked s.rules names w word) words) e in
      walk_kept words (walked s.rules names w word) p.1 (turn_kept w word p.0 v)

-- ---- no `help`

-- the subcommand that was entered, if one was, isn't `help`
abbrev pub NoHelp : Option (Text × List Text) → Type 0
NoHelp stop = IfSome stop (λ p. bytes_eq p.0 (codes "help") ≡ false)

abbrev StepsElsewhere : Step → Type 0
StepsElsewhere (next waiting) = Unit {0}
StepsElsewhere (trailing position) = Unit {0}
StepsElsewhere (subcommand name) = bytes_eq name (codes "help") ≡ false
StepsElsewhere value = Unit {0}

module _ (s : Shape) (names : Names) (enabled : s.disable_help_subcommand ≡ false) where
  plain_steps : (w : Waiting) (word : Text) (h : Held) → StepsElsewhere (plain_word s.rules w word h).1
  plain_steps idle word h = tt
  plain_steps (option id) word h = tt
  plain_steps positional word h = tt

  flag_steps : (w : Waiting) (word : Text) (h : Held) (o : Outcome) → StepsElsewhere (after_flag s.rules w word h o).1
  flag_steps w word h done = tt
  flag_steps w word h (waits id) = tt
  flag_steps w word h plain = plain_steps w word h
  flag_steps w word h refused = plain_steps w word h

  short_steps : (o : Option Text) (w : Waiting) (word : Text) (h : Held) → StepsElsewhere (short_or_plain s.rules w word o h).1
  short_steps None w word h = plain_steps w word h
  short_steps (Some t) w word h = flag_steps w word (bundle s.rules t h).0 (bundle s.rules t h).1

  long_steps : (o : Option (Text × Option Text)) (w : Waiting) (word : Text) (h : Held) → StepsElsewhere (long_or_other s.rules w word o h).1
  long_steps (Some p) w word h = flag_steps w word (long_met s.rules (arg_by_long s.rules p.0) p.1 h).0 (long_met s.rules (arg_by_long s.rules p.0) p.1 h).1
  long_steps None w word h = short_steps (short_of word) w word h

  other_steps : (o : Option Text) (w : Waiting) (position : ℕ) (word : Text) (h : Held) → other_fault s o word h ≡ [] → StepsElsewhere (subcommand_or_other s.rules o w position word h).1
  other_steps (Some name) w position word h e = go (bytes_eq name (codes "help")) s.disable_help_subcommand enabled e
    where
      go : (b d : Bool) → d ≡ false → (if b && not d then kind.DisplayHelp ∷ kind.InvalidSubcommand ∷ [] else []) ≡ [] → b ≡ false
      go false d f e = refl
      go true false f e = absurd (no_kinds _ _ e)
      go true true f e = absurd (true≢false f)
  other_steps None w position word h e = go (bytes_eq word (45 ∷ 45 ∷ []))
    where
      go : (b : Bool) → StepsElsewhere (if b then (h, trailing position) else long_or_other s.rules w word (long_of word) h).1
      go true = tt
      go false = long_steps (long_of word) w word h

  word_steps : (b : Bool) (w : Waiting) (position : ℕ) (word : Text) (h : Held) → word_fault s names b w word h ≡ [] → StepsElsewhere (word_met s.rules names b w position word h).1
  word_steps true w position word h e = tt
  word_steps false w position word h e = other_steps (subcommand_met names w word) w position word h e

  positional_stops : (o : Option Rule) (word : Text) (w : Walk) (h : Held) → NoHelp w.stopped → NoHelp (to_positional s.rules o word w h).stopped
  positional_stops None word w h n = n
  positional_stops (Some a) word w h n = tt

  step_stops : (word : Text) (w : Walk) (h : Held) (t : Step) → StepsElsewhere t → NoHelp w.stopped → NoHelp (after_step s.rules word w h t).stopped
  step_stops word w h (next waiting) m n = n
  step_stops word w h (trailing position) m n = n
  step_stops word w h (subcommand name) m n = m
  step_stops word w h value m n = positional_stops (arg_by_index s.rules w.position) word w h n

  turn_stops : (w : Walk) (word : Text) → turn_fault s names w word ≡ [] → NoHelp w.stopped → NoHelp (walked s.rules names w word).stopped
  unfolding walked
  turn_stops w word e n = go w.stopped n e
    where
      go : (o : Option (Text × List Text)) → NoHelp o → (if is_some o then [] else or_else (word_fault s names w.is_trailing w.waiting word w.held) (step_fault s w.position (word_met s.rules names w.is_trailing w.waiting w.position word w.held).0 (word_met s.rules names w.is_trailing w.waiting w.position word w.held).1)) ≡ []
          → NoHelp (walked_from s.rules names o w word).stopped
      go (Some p) here e = here
      go None here e =
          let m = word_met s.rules names w.is_trailing w.waiting w.position word w.held in
          let p = parts (word_fault s names w.is_trailing w.waiting word w.held) (step_fault s w.position m.0 m.1) e in
          step_stops word w m.0 m.1 (word_steps w.is_trailing w.waiting w.position word w.held p.0) n

  -- a walk without a fault enters no `help`
  pub walk_stops : (words : List Text) (w : Walk) → walk_fault s names w words ≡ [] → NoHelp w.stopped → NoHelp (fold (walked s.rules names) w words).stopped
  unfolding walk_fault
  walk_stops [] w e n = n
  walk_stops (word ∷ words) w e n =
      let p = parts (turn_fault s names w word) (walk_fault s names (walked s.rules names w word) words) e in
      walk_stops words (walked s.rules names w word) p.1 (turn_stops w word p.0 n)
