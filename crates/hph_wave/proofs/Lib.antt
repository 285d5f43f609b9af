mod NewPaths
