mod ClassGraphs
mod ClassItems
