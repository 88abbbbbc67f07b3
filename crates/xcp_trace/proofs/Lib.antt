mod CursorLemmas
mod TapeLaws
mod SpellingLaws
