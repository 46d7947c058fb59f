mod MadePaths
mod AppliedSteps
mod BackCosts
mod Answering
mod KeptTrees
