mod Longer
mod Trees
mod Cutting
