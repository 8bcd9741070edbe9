mod LogObserves
mod Reach
mod PlayedTrace
mod Refusals
mod Inputs
mod Requests
mod Runs
