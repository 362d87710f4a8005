mod HeldLemmas
mod StepLemmas
