mod ReadingLemmas
mod RunningLemmas
mod WordsLemmas
