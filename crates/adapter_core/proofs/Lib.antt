mod OrderWords
mod OrderStreams
mod Written
mod ReadBack
mod Lives
mod SamplesOnLine
mod PjlSegmentation
