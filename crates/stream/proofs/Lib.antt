-- What the claim of the stream rests on.
mod Transcript
mod Answered
mod Whole
